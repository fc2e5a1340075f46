-- The laws over whole histories.
use Rattle.std.proofs.Common.{◌≡◌, ℕ, suc, Bool, true, false, cond, not, ◌&&◌, ◌||◌, eqb, leb, ◌⊎◌, List, [], ◌∷◌, length, Ok, Err, sym, refl, ap, ◌∙◌, subst, inl, inr, ⊎_elim, arith}
use Rattle.std.proofs.lemmas.Bool.Decides.{nat_tests}
use Rattle.std.proofs.lemmas.Bool.{cases_Bool, both_ways, cond-true, cond-false, cond_both, ne_eqb, eq-eqb, or_left, or_from, cases_eq}
use Rattle.model.specs.declared.link.Link.{Link}
use Rattle.model.specs.declared.link.Row.{Row}
use Rattle.links.specs.declared.answer.Added.{Added}
use Rattle.links.specs.declared.answer.Added.TheVariants.{New, Already}
use Rattle.model.specs.declared.refusal.Refusal.TheVariants.{SelfLink, TableFull}
use Rattle.model.specs.Refusals.{Answer}
use Rattle.links.specs.Order.{ascending, insert_link}
use Rattle.links.specs.Rows.{answer_to, links_after, links_after_rows, full_for}
use Rattle.model.specs.Links.{In, SameLinks, link_of}
use Rattle.model.specs.Rows.{is_in, settle, settle_rows, settled, Names}
use Rattle.links.proofs.Order.{is_in-in, in-is_in, not_is_in}
use Rattle.links.proofs.Insert.{insert_in, in_insert, insert_has, insert_keeps, ascending_insert, length-insert}

pub ascending_after : (xs : List Link) (r : Row) → ascending xs ≡ true → ascending (links_after xs r) ≡ true
ascending_after xs r h =
    cond_both (eqb r.first r.second || full_for (link_of r) xs) xs (insert_link (link_of r) xs) (λ (z : List Link). ascending z ≡ true) (λ _. h) (λ _. ascending_insert (link_of r) xs h)

pub ascending_rows : (xs : List Link) (rs : List Row) → ascending xs ≡ true → ascending (links_after_rows xs rs) ≡ true
ascending_rows xs [] h = h
ascending_rows xs (r ∷ rs) h = ascending_rows (links_after xs r) rs (ascending_after xs r h)

-- the table's list and the list of what is settled, side by side
record Agree (xs ys : List Link) : Type 0 where
  up : ascending xs ≡ true
  same : SameLinks xs ys
  count : length xs ≡ length ys

same-is_in : (l : Link) (xs ys : List Link) → SameLinks xs ys → is_in l xs ≡ is_in l ys
same-is_in l xs ys s =
    ⊎_elim (λ p. p ∙ sym (in-is_in l ys ((s l).0 (is_in-in l xs p)))) (λ p.
    p ∙ sym (not_is_in l ys (λ i. both_ways (is_in l xs) p (in-is_in l xs ((s l).1 i))))) (cases_Bool (is_in l xs))

same_more : (l : Link) (xs ys : List Link) → SameLinks xs ys → SameLinks (insert_link l xs) (l ∷ ys)
same_more l xs ys s m = (
  λ i. ⊎_elim inl (λ j. inr ((s m).0 j)) (in_insert l xs m i),
  λ i.
      ⊎_elim (λ e. subst (λ (z : Link). In z (insert_link l xs)) (sym e) (insert_has l xs)) (λ j. insert_keeps l xs m ((s m).1 j)) i,
)

agree_ways : (l : Link) (xs ys : List Link) (p q r : Bool) → Agree xs ys → (q ≡ true → In l xs) → (q ≡ false → In l xs → ⊥) → Agree (cond (p || (r && not q)) xs (insert_link l xs)) (cond (p || (q || r)) ys (l ∷ ys))
agree_ways l xs ys true q r g is isnt = g
agree_ways l xs ys false true true g is isnt = subst (λ (z : List Link). Agree z ys) (sym (insert_in l xs g.up (is refl))) g
agree_ways l xs ys false true false g is isnt = subst (λ (z : List Link). Agree z ys) (sym (insert_in l xs g.up (is refl))) g
agree_ways l xs ys false false true g is isnt = g
agree_ways l xs ys false false false g is isnt = record {
  up = ascending_insert l xs g.up;
  same = same_more l xs ys g.same;
  count = length-insert l xs (isnt refl) ∙ ap suc g.count;
}

agree_step : (xs ys : List Link) (r : Row) → Agree xs ys → Agree (links_after xs r) (settle ys r)
agree_step xs ys r g =
    let l = link_of r in
    let by-xs = agree_ways l xs ys (eqb r.first r.second) (is_in l xs) (leb 2048 (length xs)) g (is_in-in l xs) (λ e i. both_ways (is_in l xs) e (in-is_in l xs i)) in
    subst (λ (n : ℕ). Agree (links_after xs r) (cond (eqb r.first r.second || (is_in l ys || leb 2048 n)) ys (l ∷ ys))) g.count (
    subst (λ (q : Bool). Agree (links_after xs r) (cond (eqb r.first r.second || (q || leb 2048 (length xs))) ys (l ∷ ys))) (same-is_in l xs ys g.same) by-xs)

agree_rows : (xs ys : List Link) (rs : List Row) → Agree xs ys → Agree (links_after_rows xs rs) (settle_rows ys rs)
agree_rows xs ys [] g = g
agree_rows xs ys (r ∷ rs) g = agree_rows (links_after xs r) (settle ys r) rs (agree_step xs ys r g)

agree_none : Agree [] []
agree_none = record { up = refl; same = λ l. (λ i. i, λ i. i); count = refl }

pub rows_settle : (rs : List Row) → SameLinks (links_after_rows [] rs) (settled rs) × (length (links_after_rows [] rs) ≡ length (settled rs))
rows_settle rs = let a = agree_rows [] [] rs agree_none in (a.same, a.count)

-- a link that a row names is the row's link
names_link : (r : Row) (l : Link) → Names r l → l ≡ link_of r
names_link r l h = grind (arith, nat_tests)

link_names : (r : Row) → (r.first ≡ r.second → ⊥) → Names r (link_of r)
link_names r n = grind (arith, nat_tests)

after_self : (xs : List Link) (r : Row) → r.first ≡ r.second → links_after xs r ≡ xs
after_self xs r e = cond-true (eqb r.first r.second || full_for (link_of r) xs) xs (insert_link (link_of r) xs) (or_left (eqb r.first r.second) (full_for (link_of r) xs) (eq-eqb r.first r.second e))

full_answer : (xs : List Link) (r : Row) → (r.first ≡ r.second → ⊥) → full_for (link_of r) xs ≡ true → answer_to xs r ≡ Err TableFull
full_answer xs r n f =
    let A = Answer Added in
    cond-false {A = A} (eqb r.first r.second) (Err SelfLink) (cond (full_for (link_of r) xs) (Err TableFull) (cond (is_in (link_of r) xs) (Ok Already) (Ok New))) (ne_eqb r.first r.second n)
    ∙ cond-true {A = A} (full_for (link_of r) xs) (Err TableFull) (cond (is_in (link_of r) xs) (Ok Already) (Ok New)) f

after_room : (xs : List Link) (r : Row) → (r.first ≡ r.second → ⊥) → (answer_to xs r ≡ Err TableFull → ⊥) → links_after xs r ≡ insert_link (link_of r) xs
after_room xs r n room =
    ⊎_elim (λ f. absurd (room (full_answer xs r n f))) (λ f.
    cond-false (eqb r.first r.second || full_for (link_of r) xs) xs (insert_link (link_of r) xs) (or_from (eqb r.first r.second) (full_for (link_of r) xs) (ne_eqb r.first r.second n) f)) (cases_Bool (full_for (link_of r) xs))

-- a row that is not refused for want of room adds what it names
abbrev pub Adds : List Link → Row → Link → List Link → Type 0
Adds xs r l ys = (In l ys → In l xs ⊎ Names r l) × (In l xs ⊎ Names r l → In l ys)

pub row_adds : (xs : List Link) (r : Row) → (answer_to xs r ≡ Err TableFull → ⊥) → (l : Link) → Adds xs r l (links_after xs r)
row_adds xs r room l =
    ⊎_elim (λ e. subst (Adds xs r l) (sym (after_self xs r e)) (inl, ⊎_elim (λ i. i) (λ h. absurd (omega arith)))) (λ n.
    subst (Adds xs r l) (sym (after_room xs r n room)) (
      λ i.
          ⊎_elim (λ e. inr (subst (Names r) (sym e) (link_names r n))) inl (in_insert (link_of r) xs l i),
      ⊎_elim (insert_keeps (link_of r) xs l) (λ h.
          subst (λ (z : Link). In z (insert_link (link_of r) xs)) (sym (names_link r l h)) (insert_has (link_of r) xs)),
    )) (cases_eq r.first r.second)
