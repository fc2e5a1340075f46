-- What `insert_link` leaves.
use Rattle.std.proofs.Common.{◌≡◌, ℕ, zero, suc, ◌<◌, ◌≤◌, true, false, cond, ◌⊎◌, List, [], ◌∷◌, ◌++◌, length, get_or, take, drop, sym, refl, ap, ◌∙◌, subst, inl, inr, ⊎_elim, arith}
use Rattle.std.proofs.lemmas.Bool.{and_parts, and_from, cases_Bool, cond-true, cond-false}
use Rattle.model.specs.declared.link.Link.{Link}
use Rattle.model.specs.Links.{before, is_link, In}
use Rattle.links.specs.Order.{before_all, ascending, proper, insert_link, no_link}
use Rattle.links.proofs.Order.{before_irrefl, not_back, neither_same, before_all-in, before_all_over, before_all_not_in, before_all_from, proper-in, proper_from}

-- the three ways of an insertion into x ∷ xs
insert_front : (l x : Link) (xs : List Link) → before l x ≡ true → insert_link l (x ∷ xs) ≡ l ∷ x ∷ xs
insert_front l x xs e = cond-true (before l x) (l ∷ x ∷ xs) (cond (before x l) (x ∷ insert_link l xs) (x ∷ xs)) e

insert_on : (l x : Link) (xs : List Link) → before x l ≡ true → insert_link l (x ∷ xs) ≡ x ∷ insert_link l xs
insert_on l x xs e =
    cond-false (before l x) (l ∷ x ∷ xs) (cond (before x l) (x ∷ insert_link l xs) (x ∷ xs)) (not_back x l e)
    ∙ cond-true (before x l) (x ∷ insert_link l xs) (x ∷ xs) e

insert_same : (l x : Link) (xs : List Link) → l ≡ x → insert_link l (x ∷ xs) ≡ x ∷ xs
insert_same l x xs e = subst (λ (z : Link). insert_link z (x ∷ xs) ≡ x ∷ xs) (sym e) (
    cond-false (before x x) (x ∷ x ∷ xs) (cond (before x x) (x ∷ insert_link x xs) (x ∷ xs)) no_self
    ∙ cond-false (before x x) (x ∷ insert_link x xs) (x ∷ xs) no_self)
  where
    no_self : before x x ≡ false
    no_self = ⊎_elim (λ e. absurd (before_irrefl x e)) (λ e. e) (cases_Bool (before x x))

data Way (l x : Link) : Type 0 where
  front : before l x ≡ true → Way l x
  on : before x l ≡ true → Way l x
  same : l ≡ x → Way l x

way : (l x : Link) → Way l x
way l x = ⊎_elim front (λ n. ⊎_elim on (λ m. same (neither_same l x n m)) (cases_Bool (before x l))) (cases_Bool (before l x))

-- at its place
pub insert_new : (l : Link) (xs : List Link) (at : ℕ) → at ≤ length xs → ((k : ℕ) → k < at → before (get_or xs k no_link) l ≡ true) → (at < length xs → before l (get_or xs at no_link) ≡ true) → insert_link l xs ≡ take at xs ++ l ∷ drop at xs
insert_new l [] zero w b a = refl
insert_new l [] (suc at) w b a = absurd (omega arith)
insert_new l (x ∷ xs) zero w b a = insert_front l x xs (a (omega arith))
insert_new l (x ∷ xs) (suc at) w b a =
    insert_on l x xs (b 0 (omega arith))
    ∙ ap (λ (ys : List Link). x ∷ ys) (insert_new l xs at (omega arith) (λ k h. b (suc k) (omega arith)) (λ h. a (omega arith)))

-- a link that is in changes nothing
pub insert_in : (l : Link) (xs : List Link) → ascending xs ≡ true → In l xs → insert_link l xs ≡ xs
insert_in l [] h i = absurd i
insert_in l (x ∷ xs) h (inl e) = insert_same l x xs e
insert_in l (x ∷ xs) h (inr i) =
    let hs = and_parts (before_all x xs) (ascending xs) h in
    insert_on l x xs (before_all-in x xs l hs.0 i) ∙ ap (λ (ys : List Link). x ∷ ys) (insert_in l xs hs.1 i)

-- the elements
pub in_insert : (l : Link) (xs : List Link) (m : Link) → In m (insert_link l xs) → (m ≡ l) ⊎ In m xs
in_insert l [] m (inl e) = inl e
in_insert l [] m (inr i) = absurd i
in_insert l (x ∷ xs) m i = go (way l x) (in_insert l xs m)
  where
    go : Way l x → (In m (insert_link l xs) → (m ≡ l) ⊎ In m xs) → (m ≡ l) ⊎ In m (x ∷ xs)
    go (front p) r = subst (In m) (insert_front l x xs p) i
    go (on p) r = ⊎_elim (λ e. inr (inl e)) (λ j. ⊎_elim inl (λ k. inr (inr k)) (r j)) (subst (In m) (insert_on l x xs p) i)
    go (same p) r = inr (subst (In m) (insert_same l x xs p) i)

pub insert_has : (l : Link) (xs : List Link) → In l (insert_link l xs)
insert_has l [] = inl refl
insert_has l (x ∷ xs) = go (way l x) (insert_has l xs)
  where
    go : Way l x → In l (insert_link l xs) → In l (insert_link l (x ∷ xs))
    go (front p) r = subst (In l) (sym (insert_front l x xs p)) (inl refl)
    go (on p) r = subst (In l) (sym (insert_on l x xs p)) (inr r)
    go (same p) r = subst (In l) (sym (insert_same l x xs p)) (inl p)

pub insert_keeps : (l : Link) (xs : List Link) (m : Link) → In m xs → In m (insert_link l xs)
insert_keeps l [] m i = absurd i
insert_keeps l (x ∷ xs) m (inl e) = go (way l x)
  where
    go : Way l x → In m (insert_link l (x ∷ xs))
    go (front p) = subst (In m) (sym (insert_front l x xs p)) (inr (inl e))
    go (on p) = subst (In m) (sym (insert_on l x xs p)) (inl e)
    go (same p) = subst (In m) (sym (insert_same l x xs p)) (inl e)
insert_keeps l (x ∷ xs) m (inr i) = go (way l x) (insert_keeps l xs m i)
  where
    go : Way l x → In m (insert_link l xs) → In m (insert_link l (x ∷ xs))
    go (front p) r = subst (In m) (sym (insert_front l x xs p)) (inr (inr i))
    go (on p) r = subst (In m) (sym (insert_on l x xs p)) (inr r)
    go (same p) r = subst (In m) (sym (insert_same l x xs p)) (inr i)

-- the order
pub before_all_insert : (x l : Link) (xs : List Link) → before x l ≡ true → before_all x xs ≡ true → before_all x (insert_link l xs) ≡ true
before_all_insert x l xs p h =
    before_all_from x (insert_link l xs) (λ m i.
    ⊎_elim (λ e. subst (λ (z : Link). before x z ≡ true) (sym e) p) (λ j. before_all-in x xs m h j) (in_insert l xs m i))

pub ascending_insert : (l : Link) (xs : List Link) → ascending xs ≡ true → ascending (insert_link l xs) ≡ true
ascending_insert l [] h = refl
ascending_insert l (x ∷ xs) h =
    let hs = and_parts (before_all x xs) (ascending xs) h in
    go (way l x) hs.0 (ascending_insert l xs hs.1)
  where
    go : Way l x → before_all x xs ≡ true → ascending (insert_link l xs) ≡ true → ascending (insert_link l (x ∷ xs)) ≡ true
    go (front p) b r =
        subst (λ (ys : List Link). ascending ys ≡ true) (sym (insert_front l x xs p)) (
        and_from (before_all l (x ∷ xs)) (ascending (x ∷ xs)) (
        and_from (before l x) (before_all l xs) p (before_all_over l x xs p b)) h)
    go (on p) b r =
        subst (λ (ys : List Link). ascending ys ≡ true) (sym (insert_on l x xs p)) (
        and_from (before_all x (insert_link l xs)) (ascending (insert_link l xs)) (before_all_insert x l xs p b) r)
    go (same p) b r = subst (λ (ys : List Link). ascending ys ≡ true) (sym (insert_same l x xs p)) h

pub proper_insert : (l : Link) (xs : List Link) → is_link l ≡ true → proper xs ≡ true → proper (insert_link l xs) ≡ true
proper_insert l xs p h =
    proper_from (insert_link l xs) (λ m i.
    ⊎_elim (λ e. subst (λ (z : Link). is_link z ≡ true) (sym e) p) (λ j. proper-in xs m h j) (in_insert l xs m i))

-- one more, if it was not in
pub length-insert : (l : Link) (xs : List Link) → (In l xs → ⊥) → length (insert_link l xs) ≡ suc (length xs)
length-insert l [] n = refl
length-insert l (x ∷ xs) n = go (way l x) (length-insert l xs (λ i. n (inr i)))
  where
    go : Way l x → length (insert_link l xs) ≡ suc (length xs) → length (insert_link l (x ∷ xs)) ≡ suc (suc (length xs))
    go (front p) r = ap length (insert_front l x xs p)
    go (on p) r = ap length (insert_on l x xs p) ∙ ap suc r
    go (same p) r = absurd (n (inl p))

-- a link that is before what stands at its place is not in
pub new_not_in : (l : Link) (xs : List Link) (at : ℕ) → ascending xs ≡ true → ((k : ℕ) → k < at → before (get_or xs k no_link) l ≡ true) → (at < length xs → before l (get_or xs at no_link) ≡ true) → In l xs → ⊥
new_not_in l [] at h b a i = i
new_not_in l (x ∷ xs) zero h b a i =
    before_all_not_in l (x ∷ xs) (
    let p = a (omega arith) in
    and_from (before l x) (before_all l xs) p (before_all_over l x xs p (and_parts (before_all x xs) (ascending xs) h).0)) i
new_not_in l (x ∷ xs) (suc at) h b a (inl e) = before_irrefl l (subst (λ (z : Link). before z l ≡ true) (sym e) (b 0 (omega arith)))
new_not_in l (x ∷ xs) (suc at) h b a (inr i) =
    new_not_in l xs at (and_parts (before_all x xs) (ascending xs) h).1 (λ k p. b (suc k) (omega arith)) (λ p. a (omega arith)) i
