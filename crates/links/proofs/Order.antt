-- The order of links, and lists that ascend by it.
use Rattle.std.proofs.Common.{◌≡◌, ℕ, zero, suc, ◌<◌, true, false, ◌&&◌, eqb, List, [], ◌∷◌, length, get_or, sym, refl, subst, inl, inr, ⊎_elim, arith}
use Rattle.std.proofs.lemmas.Bool.Decides.{nat_tests}
use Rattle.std.proofs.lemmas.Bool.{and_parts, and_from, cases_Bool, both_ways, or_cases, or_left, or_right}
use Rattle.model.specs.declared.link.Link.{Link}
use Rattle.model.specs.Links.{before, is_link, In}
use Rattle.model.specs.Rows.{is_in}
use Rattle.links.specs.Order.{before_all, ascending, proper, no_link}

pub before_trans : (a b c : Link) → before a b ≡ true → before b c ≡ true → before a c ≡ true
before_trans a b c p q = grind (arith, nat_tests)

pub before_irrefl : (a : Link) → before a a ≡ true → ⊥
before_irrefl a p = grind (arith, nat_tests)

pub neither_same : (a b : Link) → before a b ≡ false → before b a ≡ false → a ≡ b
neither_same a b p q = grind (arith, nat_tests)

pub same_links : (a b : Link) → (eqb a.low b.low && eqb a.high b.high) ≡ true → a ≡ b
same_links a b p = grind (arith, nat_tests)

pub same_self : (a : Link) → (eqb a.low a.low && eqb a.high a.high) ≡ true
same_self a = grind (arith, nat_tests)

pub not_back : (a b : Link) → before a b ≡ true → before b a ≡ false
not_back a b p = grind (arith, nat_tests)

-- not in the one order and not the same: in the other order
pub before-rest : (a b : Link) → before a b ≡ false → (a ≡ b → ⊥) → before b a ≡ true
before-rest a b p n = ⊎_elim (λ e. e) (λ e. absurd (n (neither_same a b p e))) (cases_Bool (before b a))

-- membership and its test
pub in-is_in : (l : Link) (xs : List Link) → In l xs → is_in l xs ≡ true
in-is_in l [] i = absurd i
in-is_in l (x ∷ xs) (inl e) = or_left _ _ (subst (λ (z : Link). (eqb l.low z.low && eqb l.high z.high) ≡ true) e (same_self l))
in-is_in l (x ∷ xs) (inr i) = or_right _ _ (in-is_in l xs i)

pub is_in-in : (l : Link) (xs : List Link) → is_in l xs ≡ true → In l xs
is_in-in l [] e = absurd (both_ways false refl e)
is_in-in l (x ∷ xs) e = ⊎_elim (λ p. inl (same_links l x p)) (λ p. inr (is_in-in l xs p)) (or_cases _ _ e)

pub not_is_in : (l : Link) (xs : List Link) → (In l xs → ⊥) → is_in l xs ≡ false
not_is_in l xs n = ⊎_elim (λ e. absurd (n (is_in-in l xs e))) (λ e. e) (cases_Bool (is_in l xs))

pub in-at : (xs : List Link) (k : ℕ) → k < length xs → In (get_or xs k no_link) xs
in-at [] k h = absurd (omega arith)
in-at (x ∷ xs) zero h = inl refl
in-at (x ∷ xs) (suc k) h = inr (in-at xs k (omega arith))

-- what comes before each of the links
pub before_all-in : (x : Link) (ys : List Link) (m : Link) → before_all x ys ≡ true → In m ys → before x m ≡ true
before_all-in x [] m h i = absurd i
before_all-in x (y ∷ ys) m h (inl e) = subst (λ (z : Link). before x z ≡ true) (sym e) (and_parts (before x y) (before_all x ys) h).0
before_all-in x (y ∷ ys) m h (inr i) = before_all-in x ys m (and_parts (before x y) (before_all x ys) h).1 i

pub before_all_over : (l x : Link) (ys : List Link) → before l x ≡ true → before_all x ys ≡ true → before_all l ys ≡ true
before_all_over l x [] p h = refl
before_all_over l x (y ∷ ys) p h =
    let hs = and_parts (before x y) (before_all x ys) h in
    and_from (before l y) (before_all l ys) (before_trans l x y p hs.0) (before_all_over l x ys p hs.1)

pub before_all_not_in : (l : Link) (ys : List Link) → before_all l ys ≡ true → In l ys → ⊥
before_all_not_in l ys h i = before_irrefl l (before_all-in l ys l h i)

pub ascending-at : (xs : List Link) (i j : ℕ) → ascending xs ≡ true → i < j → j < length xs → before (get_or xs i no_link) (get_or xs j no_link) ≡ true
ascending-at [] i j h p q = absurd (omega arith)
ascending-at (x ∷ xs) i zero h p q = absurd (omega arith)
ascending-at (x ∷ xs) zero (suc j) h p q =
    before_all-in x xs (get_or xs j no_link) (and_parts (before_all x xs) (ascending xs) h).0 (in-at xs j (omega arith))
ascending-at (x ∷ xs) (suc i) (suc j) h p q =
    ascending-at xs i j (and_parts (before_all x xs) (ascending xs) h).1 (omega arith) (omega arith)

pub before_all_from : (x : Link) (ys : List Link) → ((m : Link) → In m ys → before x m ≡ true) → before_all x ys ≡ true
before_all_from x [] f = refl
before_all_from x (y ∷ ys) f = and_from (before x y) (before_all x ys) (f y (inl refl)) (before_all_from x ys (λ m i. f m (inr i)))

pub proper-in : (xs : List Link) (m : Link) → proper xs ≡ true → In m xs → is_link m ≡ true
proper-in [] m h i = absurd i
proper-in (x ∷ xs) m h (inl e) = subst (λ (z : Link). is_link z ≡ true) (sym e) (and_parts (is_link x) (proper xs) h).0
proper-in (x ∷ xs) m h (inr i) = proper-in xs m (and_parts (is_link x) (proper xs) h).1 i

pub proper_from : (ys : List Link) → ((m : Link) → In m ys → is_link m ≡ true) → proper ys ≡ true
proper_from [] f = refl
proper_from (y ∷ ys) f = and_from (is_link y) (proper ys) (f y (inl refl)) (proper_from ys (λ m i. f m (inr i)))
