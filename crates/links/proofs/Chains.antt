-- The laws over whole histories of rows.
use Rattle.std.proofs.Common.{◌≡◌, ℕ, ◌^◌, true, ltb, ◌⊎◌, ◌↔◌, List, [], ◌∷◌, length, Ok, Err, Result, sym, refl, ap, ◌∙◌, subst, inl, inr, ⊎_elim, arith}
use Rattle.std.proofs.lemmas.Bool.{and_parts}
use Rattle.std.proofs.lemmas.Bool.Decides.{nat_tests}
use Rattle.model.specs.declared.link.Link.{Link}
use Rattle.model.specs.declared.refusal.Refusal.TheVariants.{TableFull}
use Rattle.model.specs.Links.{In, SameLinks, Before, before, IsLink, is_link, Each, Ascending, AscendingFrom, LinkSet}
use Rattle.model.specs.Rows.{settled, Named, Names}
use Rattle.model.proofs.Steps.{same_list}
use Rattle.links.specs.declared.answer.Added.{Added}
use Rattle.links.specs.declared.answer.TableFault.{TableFault}
use Rattle.links.specs.declared.answer.TableFault.TheVariants.{SelfLink as SelfLinked, TableFull as Filled}
use Rattle.links.specs.declared.table.LinkTable.{LinkTable}
use Rattle.links.specs.Answers.{told}
use Rattle.links.specs.Histories.{RowCall, rows_of, RowChain, no_row, row_then, RowsSettleTheLinks, NoneRefusedFull, OrderIsFree}
use Rattle.links.specs.Order.{before_all, ascending, proper}
use Rattle.links.specs.Rows.{answer_to, links_after_rows}
use Rattle.links.specs.Tables.{links_of}
use Rattle.links.proofs.Laws.{rows_settle, row_adds}
use Rattle.links.proofs.Same.{same_table}

-- the tests of a table's type say that its links are a link set
before_test : (x y : Link) → before x y ≡ true → Before x y
before_test x y e = grind (arith, nat_tests)

is_link_lem : (x : Link) → is_link x ≡ true → IsLink x
is_link_lem x e = let h = and_parts (ltb x.low x.high) (ltb x.high (2 ^ 32)) e in (grind (arith, nat_tests), grind (arith, nat_tests))

ascends_from : (x : Link) (xs : List Link) → before_all x xs ≡ true → ascending xs ≡ true → AscendingFrom x xs
ascends_from x [] b a = tt
ascends_from x (y ∷ ys) b a =
    let hs = and_parts (before_all y ys) (ascending ys) a in
    (before_test x y (and_parts (before x y) (before_all x ys) b).0, ascends_from y ys hs.0 hs.1)

ascends : (xs : List Link) → ascending xs ≡ true → Ascending xs
ascends [] a = tt
ascends (x ∷ xs) a = let hs = and_parts (before_all x xs) (ascending xs) a in ascends_from x xs hs.0 hs.1

each_link : (xs : List Link) → proper xs ≡ true → Each IsLink xs
each_link [] p = tt
each_link (x ∷ xs) p = let hs = and_parts (is_link x) (proper xs) p in (is_link_lem x hs.0, each_link xs hs.1)

pub link_set : (t : LinkTable) → LinkSet (links_of t)
link_set t = (each_link (links_of t) t.ends, ascends (links_of t) t.order)

-- a chain of rows leaves what the rows leave
chain_links : {t u : LinkTable} {calls : List RowCall} → RowChain t calls u → links_of u ≡ links_after_rows (links_of t) (rows_of calls)
chain_links no_row = refl
chain_links (row_then {call} {calls} s c) = chain_links c ∙ ap (λ (z : List Link). links_after_rows z (rows_of calls)) s.links

module _ (new : LinkTable) (none : links_of new ≡ []) where
  from_none : (calls : List RowCall) (t : LinkTable) → RowChain new calls t → links_of t ≡ links_after_rows [] (rows_of calls)
  from_none calls t c = chain_links c ∙ ap (λ (z : List Link). links_after_rows z (rows_of calls)) none

  pub settles : RowsSettleTheLinks new
  settles = record {
    links = λ calls t c. subst (λ (z : List Link). SameLinks z (settled (rows_of calls))) (sym (from_none calls t c)) (rows_settle (rows_of calls)).0;
    count = λ calls t c. ap length (from_none calls t c) ∙ (rows_settle (rows_of calls)).1;
    ascends = λ calls t c. link_set t;
  }

-- a refusal of the table's, by its fault
full_fault : (a : Result Added TableFault) → told a ≡ Err TableFull → a ≡ Err Filled
full_fault (Ok x) e = let z : ◌≡◌ {A = ℕ} 0 1 = cc in absurd (omega arith)
full_fault (Err SelfLinked) e = let z : ◌≡◌ {A = ℕ} 0 1 = cc in absurd (omega arith)
full_fault (Err Filled) e = refl

-- rows that are not refused for want of room add what they name
chain_names : {t u : LinkTable} {calls : List RowCall} → RowChain t calls u → NoneRefusedFull calls → (l : Link) → In l (links_of u) ↔ (In l (links_of t) ⊎ Named (rows_of calls) l)
chain_names no_row n l = (inl, ⊎_elim (λ i. i) (λ e. absurd e))
chain_names {t} (row_then {u} {call} {calls} s c) n l =
    let room : answer_to (links_of t) call.row ≡ Err TableFull → ⊥ = λ e. n.0 (full_fault call.answer (s.answers ∙ e)) in
    let one = subst (λ (z : List Link). (In l z → In l (links_of t) ⊎ Names call.row l) × (In l (links_of t) ⊎ Names call.row l → In l z)) (sym s.links) (row_adds (links_of t) call.row room l) in
    let rest = chain_names c n.1 l in (
      λ i. ⊎_elim (λ j. ⊎_elim inl (λ h. inr (inl h)) (one.0 j)) (λ h. inr (inr h)) (rest.0 i),
      ⊎_elim (λ i. rest.1 (inl (one.1 (inl i)))) (⊎_elim (λ h. rest.1 (inl (one.1 (inr h)))) (λ h. rest.1 (inr h))),
    )

module _ (new : LinkTable) (none : links_of new ≡ []) where
  names : (calls : List RowCall) (t : LinkTable) → RowChain new calls t → NoneRefusedFull calls → (l : Link) → In l (links_of t) ↔ Named (rows_of calls) l
  names calls t c n l =
      let h = chain_names c n l in (
        λ i. ⊎_elim (λ e. absurd (subst (In l) none e)) (λ k. k) (h.0 i),
        λ k. h.1 (inr k),
      )

  pub free : OrderIsFree new
  free = record {
    named = names;
    equal = λ calls others t u c d n m s.
        same_table t u (
        same_list (links_of t) (links_of u) (link_set t).1 (link_set u).1 (λ l. (
          λ i. (names others u d m l).1 ((s l).0 ((names calls t c n l).0 i)),
          λ i. (names calls t c n l).1 ((s l).1 ((names others u d m l).0 i)),
        )));
  }
