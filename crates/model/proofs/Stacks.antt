-- Symbols written on a stack are read back.
use Rattle.std.proofs.Common.{◌≡◌, ℕ, Bool, true, false, cond, List, [], ◌∷◌, ◌++◌, reverse, length, drop, Some, None, Ok, Option, sym, refl, ap, ◌∙◌, subst, ap₂, append_assoc, append-nil, arith}
use mathlib.Core.List.{reverse-cons, reverse-append, reverse-reverse}
use Rattle.model.specs.Cells.{Cell, bits, ahead}
use Rattle.model.specs.Codebooks.{Outcome, symbol, Decoded, Finds}
use Rattle.model.specs.Coders.{SuffixWritten}
use Rattle.model.specs.Histories.{State, StackChain, no_call, call_then}
use Rattle.model.specs.ReadBack.{Sign, Answers, same, stack_writes, stack_reads, StackSymbolsAreReadBack, BookWord, book_code, book_outcome, AnyStackSymbolsAreReadBack}
use Rattle.model.specs.Refusals.{Answer}
use Rattle.model.proofs.CellLists.{bits-append, reverse_bits, ahead-bits, drop_bits}

-- a read of what begins with a codeword
pub answered : {S : Type 0} (cs cs' : List Cell) (outcome : List Bool → Outcome S) (x : S) (v : List Bool) (later : List Cell) (a : Answer S) → ((rest : List Bool) → outcome (v ++ rest) ≡ symbol x (length v)) → cs ≡ bits v ++ later → Decoded (outcome (ahead cs)) cs a cs' → (a ≡ Ok x) × (cs' ≡ later)
answered cs cs' outcome x v later a finds e d =
    let o : outcome (ahead cs) ≡ symbol x (length v) = ap (λ t. outcome (ahead t)) e ∙ ap outcome (ahead-bits v later) ∙ finds (ahead later) in
    let p : (a ≡ Ok x) × (cs' ≡ drop (length v) cs) = subst (λ y. Decoded y cs a cs') o d in
    (p.0, p.1 ∙ ap (drop (length v)) e ∙ drop_bits v later)

-- an accepted write, by the cells to come
pub accepted : (w C : ℕ) (h h' : List Cell) (o : Option (List Bool)) → SuffixWritten w C h o (Ok tt) h' → (v : List Bool) × (o ≡ Some v) × (reverse h' ≡ bits v ++ reverse h)
accepted w C h h' (Some v) t =
    (v, refl, ap reverse t.1 ∙ reverse-append h (bits (reverse v)) ∙ ap (λ z. z ++ reverse h) (reverse_bits (reverse v) ∙ ap bits (reverse-reverse v)))
accepted w C h h' None t = let e = t.0 in let no : ◌≡◌ {A = ℕ} 0 1 = cc in absurd (omega arith)

module _ {B : Type 0} (Symbol : B → Type 0) (code : (b : B) → Symbol b → Option (List Bool)) where
  -- bits that are the codewords of symbols, one after the other
  pub data Coded : List (Sign Symbol) → List Bool → Type 0 where
    end : Coded [] []
    next : {x : Sign Symbol} {xs : List (Sign Symbol)} {v bs : List Bool} → code x.book x.sign ≡ Some v → Coded xs bs → Coded (x ∷ xs) (v ++ bs)

  pub coded_append : {xs ys : List (Sign Symbol)} {a b : List Bool} → Coded xs a → Coded ys b → Coded (xs ++ ys) (a ++ b)
  coded_append end d = d
  coded_append {ys = ys} {b = b} (next {x} {xs} {v} {bs} e c) d = subst (Coded (x ∷ (xs ++ ys))) (sym (append_assoc v bs b)) (next e (coded_append c d))

  module _ (outcome : (b : B) → List Bool → Outcome (Symbol b)) (w : ℕ) {C : Type 0} (state : C → State) where
    written : (xs : List (Sign Symbol)) {c d : C} → StackChain code outcome w state c (stack_writes Symbol xs) d → (bs : List Bool) × Coded (reverse xs) bs × (reverse (state d).cells ≡ bits bs ++ reverse (state c).cells) × ((state d).capacity ≡ (state c).capacity)
    written [] no_call = ([], end, refl, refl)
    written (x ∷ xs) {c} (call_then {d = m} step rest) =
        let p = accepted w (state c).capacity (state c).cells (state m).cells (code x.book x.sign) step.1 in
        let q = written xs rest in
        let one : Coded (x ∷ []) p.0 = subst (Coded (x ∷ [])) (append-nil p.0) (next p.1 end) in (
          q.0 ++ p.0,
          subst (λ ys. Coded ys (q.0 ++ p.0)) (sym (reverse-cons x xs)) (coded_append q.1 one),
          q.2 ∙ ap (λ t. bits q.0 ++ t) p.2 ∙ sym (append_assoc (bits q.0) (bits p.0) (reverse (state c).cells)) ∙ ap (λ t. t ++ reverse (state c).cells) (sym (bits-append q.0 p.0)),
          q.3 ∙ step.0,
        )

    module _ (finds : Finds Symbol code outcome) where
      read_back : (ys : List (Sign Symbol)) {d e : C} {bs : List Bool} (older : List Cell) (answers : Answers Symbol ys) → StackChain code outcome w state d (stack_reads Symbol ys answers) e → Coded ys bs → reverse (state d).cells ≡ bits bs ++ older → (answers ≡ same Symbol ys) × (reverse (state e).cells ≡ older) × ((state e).capacity ≡ (state d).capacity)
      read_back [] older answers no_call end h = (refl, h, refl)
      read_back (x ∷ ys) {d} older (a, others) (call_then {d = m} step rest) (next {v = v} {bs = bs} k cs) h =
          let h' : reverse (state d).cells ≡ bits v ++ (bits bs ++ older) = h ∙ ap (λ t. t ++ older) (bits-append v bs) ∙ append_assoc (bits v) (bits bs) older in
          let p = answered (reverse (state d).cells) (reverse (state m).cells) (outcome x.book) x.sign v (bits bs ++ older) a (λ rest'. finds x.book x.sign v rest' k) h' step.1 in
          let q = read_back ys older others rest cs p.1 in
          (ap₂ (λ y zs. (y, zs)) p.0 q.0, q.1, q.2 ∙ step.0)

      pub stack_symbols_are_read_back : {D : Type 0} (coming : D → List Cell) (start : C) → StackSymbolsAreReadBack Symbol code outcome w state coming start
      stack_symbols_are_read_back coming start calls c d e xs answers past writing reading =
          let p = written xs writing in
          let q = read_back (reverse xs) (reverse (state c).cells) answers reading p.1 p.2 in
          (q.0, sym (reverse-reverse (state e).cells) ∙ ap reverse q.1 ∙ reverse-reverse (state c).cells, q.2 ∙ p.3)

-- ---- any codebooks

own_word : (t : Bool) (v w : List Bool) → cond t (Some v) None ≡ Some w → (t ≡ true) × (v ≡ w)
own_word true v w e = (refl, cc)
own_word false v w e = let no : ◌≡◌ {A = ℕ} 0 1 = cc in absurd (omega arith)

pub all_find : Finds BookWord book_code book_outcome
all_find b s v rest e =
    let p = own_word (b.is_word s) s v e in
    ap (λ u. b.outcome (u ++ rest)) (sym p.1) ∙ b.finds s rest p.0 ∙ ap (λ u. symbol s (length u)) p.1

pub any_stack : {C : Type 0} (w : ℕ) (state : C → State) (start : C) → AnyStackSymbolsAreReadBack w state start
any_stack w state start = stack_symbols_are_read_back BookWord book_code book_outcome w state all_find (λ (cs : List Cell). cs) start
