-- What a search for a link finds.
use Rattle.std.proofs.Common.{◌≡◌, ℕ, ◌<◌, ◌≤◌, true, false, ◌&&◌, eqb, Bool, List, length, get_or, Ok, Err, sym, ◌∙◌, subst, ap, ⊎_elim, arith}
use Rattle.std.specs.List.{insert}
use Rattle.std.specs.List.Sorted.{IsPartitionPoint, IsPartitionedBy}
use Rattle.std.specs.Fn.{Called, ComputesKey}
use denote.Ref.{Bor}
use denote.Param.Members.{Mut}
use Rattle.std.proofs.lemmas.List.Sorted.{IsPartitionPoint-from_clause}
use Rattle.std.proofs.lemmas.Bool.{cases_lt, both_ways}
use Rattle.std.proofs.lemmas.List.{get_or_default}
use Rattle.model.specs.declared.link.Link.{Link}
use Rattle.model.specs.Links.{before, In}
use Rattle.links.specs.Order.{ascending, proper, insert_link, no_link, Place, Found}
use Rattle.links.proofs.Order.{before_trans, before-rest, same_links, same_self, in-is_in, not_is_in, in-at, ascending-at}
use Rattle.links.proofs.Insert.{insert_in, insert_new, new_not_in, ascending_insert, proper_insert}

-- what stands at the place of a link tells whether it is in: it does, another does, or none
pub found_here : (l h : Link) (xs : List Link) (at : ℕ) → ascending xs ≡ true → at < length xs → h ≡ get_or xs at h → (eqb h.low l.low && eqb h.high l.high) ≡ true → Found l xs (Ok at)
found_here l h xs at up lt e same =
    let stands : get_or xs at no_link ≡ l = get_or_default xs at no_link h lt ∙ sym e ∙ same_links h l same in
    let i : In l xs = subst (λ (z : Link). In z xs) stands (in-at xs at lt) in
    (in-is_in l xs i, insert_in l xs up i)

belongs : (l : Link) (xs : List Link) (at : ℕ) → ascending xs ≡ true → proper xs ≡ true → Place l xs at → (at < length xs → before l (get_or xs at no_link) ≡ true) → Found l xs (Err at)
belongs l xs at h q p up =
    let e : insert_link l xs ≡ insert xs at l = insert_new l xs at p.within p.below up in (
      not_is_in l xs (new_not_in l xs at h p.below up),
      p.within,
      e,
      subst (λ (ys : List Link). ascending ys ≡ true) e (ascending_insert l xs h),
      λ i. subst (λ (ys : List Link). proper ys ≡ true) e (proper_insert l xs i q),
    )

pub another_here : (l h : Link) (xs : List Link) (at : ℕ) → ascending xs ≡ true → proper xs ≡ true → Place l xs at → at < length xs → h ≡ get_or xs at h → (eqb h.low l.low && eqb h.high l.high) ≡ false → Found l xs (Err at)
another_here l h xs at up q p lt e other =
    let stands : get_or xs at no_link ≡ h = get_or_default xs at no_link h lt ∙ sym e in
    let differs : get_or xs at no_link ≡ l → ⊥ = λ s. both_ways (eqb h.low l.low && eqb h.high l.high) other (subst (λ (z : Link). (eqb z.low l.low && eqb z.high l.high) ≡ true) (sym (sym stands ∙ s)) (same_self l)) in
    belongs l xs at up q p (λ below. before-rest (get_or xs at no_link) l (p.above at (omega arith) lt) differs)

pub none_here : (l : Link) (xs : List Link) (at : ℕ) → ascending xs ≡ true → proper xs ≡ true → Place l xs at → length xs ≤ at → Found l xs (Err at)
none_here l xs at up q p past = belongs l xs at up q p (λ lt. absurd (omega arith))

-- of ascending links, none that comes before l stands after one that does not
pub parted : (l : Link) (xs : List Link) → ascending xs ≡ true → IsPartitionedBy (λ x. before x l) xs
parted l xs h i j d le lt p =
    let first = get_or_default xs i no_link d (omega arith) in
    let later = get_or_default xs j no_link d lt in
    ⊎_elim (λ q.
    let up = before_trans (get_or xs i no_link) (get_or xs j no_link) l (ascending-at xs i j h q lt) (ap (λ (x : Link). before x l) later ∙ p) in
    sym (ap (λ (x : Link). before x l) first) ∙ up) (λ q.
    let e : j ≡ i = omega arith in
    subst (λ (k : ℕ). before (get_or xs k d) l ≡ true) e p) (cases_lt i j)

-- the library's partition point, at a test that answers whether a link comes before l, is the place of l
pub placed : {F : Type 0} {g : Mut F (Bor Link × Unit {0}) Bool} {f : F} (l : Link) (xs : List Link) (at : ℕ)
    → at ≤ length xs
    → ((q : Link → Bool) → ComputesKey g q f → IsPartitionedBy q xs → IsPartitionPoint (λ y. q y ≡ true) (λ y. q y ≡ false) xs at)
    → ascending xs ≡ true
    → ((a : Bor Link × Unit {0}) (r : Bool) (f' : F) → Called g f a r f' → (r ≡ before a.0.now l) × (f' ≡ f))
    → Place l xs at
placed {g = g} {f = f} l xs at w clause h k =
    let p = IsPartitionPoint-from_clause (λ x. before x l) {g = g} {f = f} xs at clause (parted l xs h) k in
    record { within = w; below = λ k lt. p.0 k no_link (omega arith) lt; above = λ k le lt. p.1 k no_link le lt }
