-- Symbols written to a queue are read back in order.
use Rattle.std.proofs.Common.{◌≡◌, ℕ, ◌-◌, ◌*◌, Bool, false, List, [], ◌∷◌, ◌++◌, length, take, drop, Some, None, Ok, Err, Option, sym, refl, ap, ◌∙◌, ap₂, append_assoc, append-nil, arith, length-append}
use lib.ListN.{length-replicate}
use Rattle.std.proofs.lemmas.List.{drop_at, take_at, take-append-drop}
use Rattle.model.specs.Bits.{zeros}
use Rattle.model.specs.Cells.{Cell, bit, bad, bits, ahead, beyond, cells_of}
use Rattle.model.specs.Codebooks.{Outcome, symbol, refused, short, Decoded, Finds}
use Rattle.model.specs.Coders.{PrefixWritten, words_for}
use Rattle.model.specs.Histories.{State, EncoderChain, no_write, write_then, DecoderCall, read_bit, decode_symbol, DecoderStep, DecoderChain, no_read, read_then}
use Rattle.model.specs.ReadBack.{Sign, Answers, same, queue_writes, queue_reads, QueueSymbolsAreReadBack, BookWord, book_code, book_outcome, AnyQueueSymbolsAreReadBack}
use Rattle.model.specs.Refusals.{Answer}
use Rattle.model.specs.Sinks.{Read}
use Rattle.model.proofs.CellLists.{bits-append, length-bits}
use Rattle.model.proofs.Stacks.{answered, Coded, end, next, all_find}

-- ---- a read leaves the last of the cells to come

rest_of : (cs : List Cell) → (taken : List Cell) × (cs ≡ taken ++ beyond cs)
rest_of [] = ([], refl)
rest_of (bit b ∷ cs) = let p = rest_of cs in (bit b ∷ p.0, ap (λ t. bit b ∷ t) p.1)
rest_of (bad k ∷ cs) = ([], refl)

pub decoded-rest : {S : Type 0} (o : Outcome S) (cs cs' : List Cell) (a : Answer S) → Decoded o cs a cs' → (taken : List Cell) × (cs ≡ taken ++ cs')
decoded-rest (symbol s n) cs cs' a (_, e) = (take n cs, sym (take-append-drop n cs) ∙ ap (λ t. take n cs ++ t) (sym e))
decoded-rest (refused why n) cs cs' a (_, e) = (take n cs, sym (take-append-drop n cs) ∙ ap (λ t. take n cs ++ t) (sym e))
decoded-rest (short why) cs cs' a (_, e) = let p = rest_of cs in (p.0, p.1 ∙ ap (λ t. p.0 ++ t) (sym e))

bit_rest : (r : Answer (Option Bool)) (cs cs' : List Cell) → Read cs r cs' → (taken : List Cell) × (cs ≡ taken ++ cs')
bit_rest (Ok (Some b)) cs cs' e = (bit b ∷ [], e)
bit_rest (Ok None) cs cs' (e, h) = ([], e ∙ sym h)
bit_rest (Err e) cs cs' (k, rest, f, g, h) = ([], sym h)

same_start : {A : Type 0} (a b c d : List A) → length a ≡ length c → a ++ b ≡ c ++ d → b ≡ d
same_start a b c d l e = sym (drop_at a b (length a) refl) ∙ ap (drop (length a)) e ∙ drop_at c d (length a) (sym l)

-- an accepted write
accepted : (w C : ℕ) (h h' : List Cell) (o : Option (List Bool)) → PrefixWritten w C h o (Ok tt) h' → (v : List Bool) × (o ≡ Some v) × (h' ≡ h ++ bits v)
accepted w C h h' (Some v) t = (v, refl, t.1)
accepted w C h h' None t = let e = t.0 in let no : ◌≡◌ {A = ℕ} 0 1 = cc in absurd (omega arith)

module _ {B : Type 0} (Symbol : B → Type 0) (code : (b : B) → Symbol b → Option (List Bool)) (outcome : (b : B) → List Bool → Outcome (Symbol b)) (w : ℕ) where
  module _ {C : Type 0} (state : C → State) where
    written : (xs : List (Sign Symbol)) {c d : C} → EncoderChain code w state c (queue_writes Symbol xs) d → (bs : List Bool) × Coded Symbol code xs bs × ((state d).cells ≡ (state c).cells ++ bits bs)
    written [] {c} no_write = ([], end, sym (append-nil (state c).cells))
    written (x ∷ xs) {c} (write_then {d = m} step rest) =
        let p = accepted w (state c).capacity (state c).cells (state m).cells (code x.book x.sign) step.1 in
        let q = written xs rest in (
          p.0 ++ q.0,
          next p.1 q.1,
          q.2 ∙ ap (λ t. t ++ bits q.0) p.2 ∙ append_assoc (state c).cells (bits p.0) (bits q.0) ∙ ap (λ t. (state c).cells ++ t) (sym (bits-append p.0 q.0)),
        )

  module _ {D : Type 0} (coming : D → List Cell) where
    step_rest : (call : DecoderCall Symbol) (cs cs' : List Cell) → DecoderStep outcome cs call cs' → (taken : List Cell) × (cs ≡ taken ++ cs')
    step_rest (read_bit r) cs cs' s = bit_rest r cs cs' s
    step_rest (decode_symbol b r) cs cs' s = decoded-rest (outcome b (ahead cs)) cs cs' r s

    chain_rest : (calls : List (DecoderCall Symbol)) {c d : D} → DecoderChain outcome coming c calls d → (taken : List Cell) × (coming c ≡ taken ++ coming d)
    chain_rest [] no_read = ([], refl)
    chain_rest (call ∷ calls) {c} {d = e} (read_then {d = m} s rest) =
        let p = step_rest call (coming c) (coming m) s in
        let q = chain_rest calls rest in
        (p.0 ++ q.0, p.1 ∙ ap (λ t. p.0 ++ t) q.1 ∙ sym (append_assoc p.0 q.0 (coming e)))

    module _ (finds : Finds Symbol code outcome) where
      read_back : (xs : List (Sign Symbol)) {d e : D} {bs : List Bool} (later : List Cell) (answers : Answers Symbol xs) → DecoderChain outcome coming d (queue_reads Symbol xs answers) e → Coded Symbol code xs bs → coming d ≡ bits bs ++ later → (answers ≡ same Symbol xs) × (coming e ≡ later)
      read_back [] later answers no_read end h = (refl, h)
      read_back (x ∷ xs) {d} later (a, others) (read_then {d = m} step rest) (next {v = v} {bs = bs} k cs) h =
          let h' : coming d ≡ bits v ++ (bits bs ++ later) = h ∙ ap (λ t. t ++ later) (bits-append v bs) ∙ append_assoc (bits v) (bits bs) later in
          let p = answered (coming d) (coming m) (outcome x.book) x.sign v (bits bs ++ later) a (λ rest'. finds x.book x.sign v rest' k) h' step in
          let q = read_back xs later others rest cs p.1 in
          (ap₂ (λ y zs. (y, zs)) p.0 q.0, q.1)

      module _ {C : Type 0} (state : C → State) where
        pub queue_symbols_are_read_back : (start : C) → QueueSymbolsAreReadBack Symbol code outcome w state coming start
        queue_symbols_are_read_back start calls c d f xs past writing flushed =
            let p = written state xs writing in
            let old = (state c).cells in
            let n = words_for w (state d).cells * w - length (state d).cells in
            let z = zeros n in
            let made : (state f).cells ≡ (state d).cells ++ bits z = flushed.1.0.1 in
            let all : cells_of w (state f).stored ≡ old ++ (bits p.0 ++ bits z) =
            sym (flushed.1.1 refl) ∙ made ∙ ap (λ t. t ++ bits z) p.2 ∙ append_assoc old (bits p.0) (bits z) in
            let left : n ≡ length (state f).cells - length (state d).cells =
            omega (arith, ap length made, length-append (state d).cells (bits z), length-bits z, length-replicate n false) in (
              ap (take (length old)) all ∙ take_at old (bits p.0 ++ bits z) (length old) refl,
              λ first later last earlier answers these reading count asking.
                  let t = chain_rest earlier reading in
                  let l : length t.0 ≡ length old = omega (arith, ap length t.1, length-append t.0 (coming later)) in
                  let h : coming later ≡ bits p.0 ++ bits z = same_start t.0 (coming later) old (bits p.0 ++ bits z) l (sym t.1 ∙ these ∙ all) in
                  let q = read_back xs (bits z) answers asking p.1 h in
                  (q.0, q.1 ∙ ap (λ m. bits (zeros m)) left),
            )

pub any_queue : {C : Type 0} (w : ℕ) (state : C → State) (start : C) → AnyQueueSymbolsAreReadBack w state start
any_queue w state start = queue_symbols_are_read_back BookWord book_code book_outcome w (λ (cs : List Cell). cs) all_find state start
