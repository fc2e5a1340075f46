-- Links and the steps to them determine one another, and two ascending lists of the same links are one list.
use Rattle.std.proofs.Common.{◌≡◌, ◌+◌, ◌-◌, ◌<◌, ◌≤◌, List, [], ◌∷◌, sym, refl, ◌∙◌, subst, ap₂, inl, inr, ⊎_elim, arith}
use Rattle.std.proofs.lemmas.Bool.{cases_lt, cases_eq, eq-eqb, ne_eqb}
use Rattle.model.specs.declared.link.Link.{Link}
use Rattle.model.specs.Links.{IsLink, Before, In, SameLinks, AscendingFrom, Ascending, LinkSet}
use Rattle.model.specs.Runs.{Step, start, step_to, link_at}

pub link_same : (x y : Link) → x.low ≡ y.low → x.high ≡ y.high → x ≡ y
link_same x y p q = λ i. record { low = p i; high = q i }

step_same : (s t : Step) → s.d ≡ t.d → s.e ≡ t.e → s ≡ t
step_same s t p q = λ i. record { d = p i; e = q i }

-- ---- a link set, from what stands before it

start-before : (x : Link) → IsLink x → Before start x
start-before x l = ⊎_elim (λ h. inl h) (λ h. inr (omega arith, omega arith)) (cases_lt 0 x.low)

pub after_start : (xs : List Link) → LinkSet xs → AscendingFrom start xs
after_start [] s = tt
after_start (x ∷ xs) s = (start-before x s.0.0, s.1)

pub ascending : (b : Link) (xs : List Link) → AscendingFrom b xs → Ascending xs
ascending b [] a = tt
ascending b (x ∷ xs) a = a.1

-- ---- one link

pub link_back : (b x : Link) → Before b x → IsLink x → link_at b (step_to b x) ≡ x
unfolding link_at step_to
link_back b x (inl h) l = link_same _ x (omega arith) (rw (ne_eqb (x.low - b.low) 0 (omega arith)) (omega arith))
link_back b x (inr h) l = link_same _ x (omega arith) (rw (eq-eqb (x.low - b.low) 0 (omega arith)) (omega arith))

pub step_back : (b : Link) (s : Step) → step_to b (link_at b s) ≡ s
unfolding link_at step_to
step_back b s =
    let same : (b.low + s.d) - b.low ≡ s.d = omega arith in
    ⊎_elim
    (λ z. step_same (step_to b (link_at b s)) s same (rw (same, eq-eqb s.d 0 z) (omega arith)))
    (λ z. step_same (step_to b (link_at b s)) s same (rw (same, ne_eqb s.d 0 z) (omega arith)))
    (cases_eq s.d 0)

pub link_after : (b : Link) (s : Step) → b.low ≤ b.high → ((link_at b s).low < (link_at b s).high) × Before b (link_at b s)
unfolding link_at
link_after b s h =
    ⊎_elim
    (λ z. rw (eq-eqb s.d 0 z) (omega arith, inr (omega arith, omega arith)))
    (λ z. rw (ne_eqb s.d 0 z) (omega arith, inl (omega arith)))
    (cases_eq s.d 0)

pub link_low : (b : Link) (s : Step) → (link_at b s).low ≡ b.low + s.d
unfolding link_at
link_low b s = refl

pub step_small : (b x : Link) → ((step_to b x).d ≤ x.low) × ((step_to b x).e ≤ x.high)
unfolding step_to
step_small b x =
    ⊎_elim
    (λ z. (omega arith, rw (eq-eqb (x.low - b.low) 0 z) (omega arith)))
    (λ z. (omega arith, rw (ne_eqb (x.low - b.low) 0 z) (omega arith)))
    (cases_eq (x.low - b.low) 0)

-- ---- one list

before_trans : (x y z : Link) → Before x y → Before y z → Before x z
before_trans x y z (inl a) (inl b) = inl (omega arith)
before_trans x y z (inl a) (inr b) = inl (omega arith)
before_trans x y z (inr a) (inl b) = inl (omega arith)
before_trans x y z (inr a) (inr b) = inr (omega arith, omega arith)

before_not_self : (x : Link) → Before x x → ⊥
before_not_self x (inl a) = omega arith
before_not_self x (inr a) = omega arith

-- what a list ascends from comes before each of it
before-in : (x : Link) (ys : List Link) (z : Link) → AscendingFrom x ys → In z ys → Before x z
before-in x [] z a i = absurd i
before-in x (y ∷ ys) z a (inl e) = subst (Before x) (sym e) a.0
before-in x (y ∷ ys) z a (inr i) = before_trans x y z a.0 (before-in y ys z a.1 i)

pub same_list : (xs ys : List Link) → Ascending xs → Ascending ys → SameLinks xs ys → xs ≡ ys
same_list [] [] h k s = refl
same_list [] (y ∷ ys) h k s = absurd ((s y).1 (inl refl))
same_list (x ∷ xs) [] h k s = absurd ((s x).0 (inl refl))
same_list (x ∷ xs) (y ∷ ys) h k s =
    let e : x ≡ y =
    ⊎_elim (λ e. e)
    (λ i. ⊎_elim (λ e. sym e) (λ j. absurd (before_not_self x (before_trans x y x (before-in x xs y h j) (before-in y ys x k i)))) ((s y).1 (inl refl)))
    ((s x).0 (inl refl))
    in
    let tails : SameLinks xs ys =
    λ m. (
      λ i. ⊎_elim (λ f. absurd (before_not_self x (before-in x xs x h (subst (λ (z : Link). In z xs) (f ∙ sym e) i)))) (λ j. j) ((s m).0 (inr i)),
      λ i. ⊎_elim (λ f. absurd (before_not_self y (before-in y ys y k (subst (λ (z : Link). In z ys) (f ∙ e) i)))) (λ j. j) ((s m).1 (inr i)),
    )
    in
    ap₂ ◌∷◌ e (same_list xs ys (ascending x xs h) (ascending y ys k) tails)
