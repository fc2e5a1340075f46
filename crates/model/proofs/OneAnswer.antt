-- The calls of coders are settled by what is held before them.
use Rattle.std.proofs.Common.{◌≡◌, ℕ, zero, suc, ◌+◌, ◌%◌, ◌<◌, Bool, true, false, List, [], ◌∷◌, ◌++◌, reverse, length, Some, None, Ok, Err, Option, sym, refl, ap, ◌∙◌, inl, inr, arith, length-append}
use mathlib.Core.List.{reverse-append, reverse-reverse}
use lib.ListN.{length-replicate}
use Rattle.model.specs.declared.refusal.Refusal.{Refusal}
use Rattle.model.specs.declared.refusal.Refusal.TheVariants.{BadRecord}
use Rattle.model.specs.Bits.{zeros}
use Rattle.model.specs.Cells.{Cell, bit, bad, bits, ahead, mark}
use Rattle.model.specs.Codebooks.{Outcome, symbol, refused, short, Decoded}
use Rattle.model.specs.Coders.{BitWritten, PrefixWritten, SealWritten, FlushWritten, BitRead, SymbolRead, SealTaken, SealMissed, MarkTaken, as_sink}
use Rattle.model.specs.Refusals.{Answer}
use Rattle.model.specs.Settled.{Settles, CallsAreSettled}
use Rattle.model.specs.Sinks.{Sink, Emitted}
use Rattle.model.proofs.CellLists.{length-bits}

-- ---- ends of lists

pub reverse-same : {A : Type 0} (s t : List A) → reverse s ≡ reverse t → s ≡ t
reverse-same s t e = sym (reverse-reverse s) ∙ ap reverse e ∙ reverse-reverse t

-- the newest element and the older ones
pub newest : {A : Type 0} (s t : List A) (x y : A) → s ++ (x ∷ []) ≡ t ++ (y ∷ []) → (s ≡ t) × (x ≡ y)
newest s t x y e =
    let r : x ∷ reverse s ≡ y ∷ reverse t = sym (reverse-append s (x ∷ [])) ∙ ap reverse e ∙ reverse-append t (y ∷ []) in
    let tails : reverse s ≡ reverse t = cc in
    (reverse-same s t tails, cc)

pub not_empty : {A : Type 0} (s : List A) (x : A) → s ++ (x ∷ []) ≡ [] → ⊥
not_empty [] x e = let z : ◌≡◌ {A = ℕ} 0 1 = cc in omega arith
not_empty (y ∷ s) x e = let z : ◌≡◌ {A = ℕ} 0 1 = cc in omega arith

-- ---- marks, newest cell first

length-zeros : (n : ℕ) → length (bits (zeros n)) ≡ n
length-zeros n = length-bits (zeros n) ∙ length-replicate n false

-- zero cells turned round are zero cells
zeros-turned : (n : ℕ) (cs : List Cell) → reverse (bits (zeros n)) ++ cs ≡ bits (zeros n) ++ cs
zeros-turned zero cs = refl
zeros-turned (suc n) cs =
    ap (λ t. t ++ cs) (reverse-append (bit false ∷ []) (bits (zeros n)))
    ∙ append-one (reverse (bits (zeros n))) cs
    ∙ zeros-turned n (bit false ∷ cs)
    ∙ push n cs
  where
    append-one : (s t : List Cell) → (s ++ (bit false ∷ [])) ++ t ≡ s ++ (bit false ∷ t)
    append-one [] t = refl
    append-one (x ∷ s) t = ap (λ u. x ∷ u) (append-one s t)

    push : (m : ℕ) (t : List Cell) → bits (zeros m) ++ (bit false ∷ t) ≡ bit false ∷ (bits (zeros m) ++ t)
    push zero t = refl
    push (suc m) t = ap (λ u. bit false ∷ u) (push m t)

pub mark-turned : (h : List Cell) (z : ℕ) → reverse (h ++ mark z) ≡ bits (zeros z) ++ (bit true ∷ reverse h)
mark-turned h z =
    reverse-append h (mark z)
    ∙ ap (λ t. t ++ reverse h) (reverse-append (bit true ∷ []) (bits (zeros z)))
    ∙ join (reverse (bits (zeros z))) (reverse h)
    ∙ zeros-turned z (bit true ∷ reverse h)
  where
    join : (s t : List Cell) → (s ++ (bit true ∷ [])) ++ t ≡ s ++ (bit true ∷ t)
    join [] t = refl
    join (x ∷ s) t = ap (λ u. x ∷ u) (join s t)

ends_turned : (front : List Cell) (n : ℕ) → reverse (front ++ bits (zeros n)) ≡ bits (zeros n) ++ reverse front
ends_turned front n = reverse-append front (bits (zeros n)) ∙ zeros-turned n (reverse front)

-- the first one bit after zeros
one-mark : (m n : ℕ) (s t : List Cell) → bits (zeros m) ++ (bit true ∷ s) ≡ bits (zeros n) ++ (bit true ∷ t) → s ≡ t
one-mark zero zero s t e = cc
one-mark zero (suc n) s t e = let z : ◌≡◌ {A = ℕ} 0 1 = cc in absurd (omega arith)
one-mark (suc m) zero s t e = let z : ◌≡◌ {A = ℕ} 0 1 = cc in absurd (omega arith)
one-mark (suc m) (suc n) s t e = one-mark m n s t (let f : bits (zeros m) ++ (bit true ∷ s) ≡ bits (zeros n) ++ (bit true ∷ t) = cc in f)

-- it does not stand among more zeros
mark_or_zeros : (m n : ℕ) (s t : List Cell) → m < n → bits (zeros m) ++ (bit true ∷ s) ≡ bits (zeros n) ++ t → ⊥
mark_or_zeros m zero s t lt e = absurd (omega arith)
mark_or_zeros zero (suc n) s t lt e = let z : ◌≡◌ {A = ℕ} 0 1 = cc in omega arith
mark_or_zeros (suc m) (suc n) s t lt e = mark_or_zeros m n s t (omega arith) (let f : bits (zeros m) ++ (bit true ∷ s) ≡ bits (zeros n) ++ t = cc in f)

mark_or_fault : (m k : ℕ) (s t : List Cell) → bits (zeros m) ++ (bit true ∷ s) ≡ bad k ∷ t → ⊥
mark_or_fault zero k s t e = let z : ◌≡◌ {A = ℕ} 0 1 = cc in omega arith
mark_or_fault (suc m) k s t e = let z : ◌≡◌ {A = ℕ} 0 1 = cc in omega arith

zeros_or_fault : (n k : ℕ) (s t : List Cell) → 0 < n → bits (zeros n) ++ s ≡ bad k ∷ t → ⊥
zeros_or_fault zero k s t p e = absurd (omega arith)
zeros_or_fault (suc n) k s t p e = let z : ◌≡◌ {A = ℕ} 0 1 = cc in omega arith

fault_turned : (front : List Cell) (k : ℕ) → reverse (front ++ (bad k ∷ [])) ≡ bad k ∷ reverse front
fault_turned front k = reverse-append front (bad k ∷ [])

-- ---- unseal

unsealed_once : (w : ℕ) (h a b : List Cell) → MarkTaken w h a → MarkTaken w h b → a ≡ b
unsealed_once w h a b (y, ly, p) (z, lz, q) =
    reverse-same a b (one-mark y z (reverse a) (reverse b) (sym (mark-turned a y) ∙ ap reverse (sym p ∙ q) ∙ mark-turned b z))

mark_missed : (w : ℕ) (h a : List Cell) (e : Refusal) → length h % w ≡ 0 → MarkTaken w h a → SealMissed w h e → ⊥
mark_missed w h a e edge (y, ly, p) (inl (_, off)) = off edge
mark_missed w h a e edge (y, ly, p) (inr (inl (k, _, _, (front, f)))) =
    mark_or_fault y k (reverse a) (reverse front) (sym (mark-turned a y) ∙ ap reverse (sym p ∙ f) ∙ fault_turned front k)
mark_missed w h a e edge (y, ly, p) (inr (inr (_, _, (front, f)))) =
    mark_or_zeros y w (reverse a) (reverse front) ly (sym (mark-turned a y) ∙ ap reverse (sym p ∙ f) ∙ ends_turned front w)

none_missed : (w : ℕ) (h : List Cell) (e : Refusal) → 0 < w → length h % w ≡ 0 → h ≡ [] → SealMissed w h e → ⊥
none_missed w h e pos edge n (inl (_, off)) = off edge
none_missed w h e pos edge n (inr (inl (k, _, _, (front, f)))) = not_empty front (bad k) (sym f ∙ n)
none_missed w h e pos edge n (inr (inr (_, _, (front, f)))) =
    let l : length front + length (bits (zeros w)) ≡ 0 = simp length-append at (ap length (sym f ∙ n)) in
    omega (arith, length-zeros w)

missed_once : (w : ℕ) (h : List Cell) (d e : Refusal) → 0 < w → SealMissed w h d → SealMissed w h e → d ≡ e
missed_once w h d e pos (inl (p, _)) (inl (q, _)) = p ∙ sym q
missed_once w h d e pos (inl (_, off)) (inr (inl (_, _, edge, _))) = absurd (off edge)
missed_once w h d e pos (inl (_, off)) (inr (inr (_, edge, _))) = absurd (off edge)
missed_once w h d e pos (inr (inl (_, _, edge, _))) (inl (_, off)) = absurd (off edge)
missed_once w h d e pos (inr (inl (j, p, _, (s, f)))) (inr (inl (k, q, _, (t, g)))) =
    let n : bad j ≡ bad k = (newest s t (bad j) (bad k) (sym f ∙ g)).1 in
    let i : j ≡ k = cc in
    p ∙ ap BadRecord i ∙ sym q
missed_once w h d e pos (inr (inl (j, p, _, (s, f)))) (inr (inr (_, _, (t, g)))) =
    absurd (zeros_or_fault w j (reverse t) (reverse s) pos (sym (ends_turned t w) ∙ ap reverse (sym g ∙ f) ∙ fault_turned s j))
missed_once w h d e pos (inr (inr (_, edge, _))) (inl (_, off)) = absurd (off edge)
missed_once w h d e pos (inr (inr (_, _, (t, g)))) (inr (inl (j, q, _, (s, f)))) =
    absurd (zeros_or_fault w j (reverse t) (reverse s) pos (sym (ends_turned t w) ∙ ap reverse (sym g ∙ f) ∙ fault_turned s j))
missed_once w h d e pos (inr (inr (p, _, _))) (inr (inr (q, _, _))) = p ∙ sym q

mark_some : (w : ℕ) (h a : List Cell) → MarkTaken w h a → h ≡ [] → ⊥
mark_some w h a (y, _, p) n =
    let l : length a + length (mark y) ≡ 0 = simp length-append at (ap length (sym p ∙ n)) in
    omega arith

ok_unit : (x y : Unit {0}) → ◌≡◌ {A = Answer (Unit {0})} (Ok x) (Ok y)
ok_unit x y = refl

unseals : (w : ℕ) (h : List Cell) → 0 < w → Settles (SealTaken w h)
unseals w h pos (Ok x) (Ok y) a b (edge, inl (n, p)) (_, inl (_, q)) = (ok_unit x y, p ∙ sym q)
unseals w h pos (Ok x) (Ok y) a b (edge, inl (n, p)) (_, inr m) = absurd (mark_some w h b m n)
unseals w h pos (Ok x) (Ok y) a b (edge, inr m) (_, inl (n, q)) = absurd (mark_some w h a m n)
unseals w h pos (Ok x) (Ok y) a b (edge, inr m) (_, inr n) = (ok_unit x y, unsealed_once w h a b m n)
unseals w h pos (Ok x) (Err e) a b (edge, inl (n, p)) (m, q) = absurd (none_missed w h e pos edge n m)
unseals w h pos (Ok x) (Err e) a b (edge, inr t) (m, q) = absurd (mark_missed w h a e edge t m)
unseals w h pos (Err e) (Ok y) a b (m, q) (edge, inl (n, p)) = absurd (none_missed w h e pos edge n m)
unseals w h pos (Err e) (Ok y) a b (m, q) (edge, inr t) = absurd (mark_missed w h b e edge t m)
unseals w h pos (Err d) (Err e) a b (m, p) (n, q) = (ap Err (missed_once w h d e pos m n), p ∙ sym q)

-- ---- the other calls

writes : (w C : ℕ) (h : List Cell) (x : Bool) → Settles (BitWritten w C h x)
writes w C h x (Ok _) (Ok _) a b (_, p) (_, q) = (refl, p ∙ sym q)
writes w C h x (Ok _) (Err e) a b (lt, _) (_, eq, _) = absurd (omega arith)
writes w C h x (Err d) (Ok _) a b (_, eq, _) (lt, _) = absurd (omega arith)
writes w C h x (Err d) (Err e) a b (p, _, m) (q, _, n) = (ap Err (p ∙ sym q), m ∙ sym n)

emits : (s : Sink) (v : List Bool) (r r' : Answer (Unit {0})) (t t' : Sink) → Emitted v s r t → Emitted v s r' t' → (r ≡ r') × (t.taken ≡ t'.taken)
emits s v (Ok _) (Ok _) t u (_, p, _) (_, q, _) = (refl, p ∙ sym q)
emits s v (Ok _) (Err e) t u (le, _, _) (_, (lt, _, _)) = absurd (omega arith)
emits s v (Err d) (Ok _) t u (_, (lt, _, _)) (le, _, _) = absurd (omega arith)
emits s v (Err d) (Err e) t u (p, (_, m, _)) (q, (_, n, _)) = (ap Err (p ∙ sym q), m ∙ sym n)

encodes : (w C : ℕ) (h : List Cell) (codeword : Option (List Bool)) → Settles (PrefixWritten w C h codeword)
encodes w C h (Some v) r r' a b p q = emits (as_sink w C h) v r r' (as_sink w C a) (as_sink w C b) p q
encodes w C h None r r' a b (p, m) (q, n) = (p ∙ sym q, ap (λ s. s.taken) (m ∙ sym n))

seals : (w C : ℕ) (h : List Cell) → Settles (SealWritten w C h)
seals w C h (Ok _) (Ok _) a b (_, p) (_, q) = (refl, p ∙ sym q)
seals w C h (Ok _) (Err e) a b (le, _) (_, lt, _) = absurd (omega arith)
seals w C h (Err d) (Ok _) a b (_, lt, _) (le, _) = absurd (omega arith)
seals w C h (Err d) (Err e) a b (p, _, m) (q, _, n) = (ap Err (p ∙ sym q), m ∙ sym n)

flushes : (w C : ℕ) (h : List Cell) → Settles (FlushWritten w C h)
flushes w C h (Ok _) (Ok _) a b (_, p) (_, q) = (refl, p ∙ sym q)
flushes w C h (Ok _) (Err e) a b (le, _) (_, lt, _) = absurd (omega arith)
flushes w C h (Err d) (Ok _) a b (_, lt, _) (le, _) = absurd (omega arith)
flushes w C h (Err d) (Err e) a b (p, _, m) (q, _, n) = (ap Err (p ∙ sym q), m ∙ sym n)

reads : (h : List Cell) → Settles (BitRead h)
reads h (Ok None) (Ok None) a b (_, p) (_, q) = (refl, p ∙ sym q)
reads h (Ok None) (Ok (Some y)) a b (n, _) q = absurd (not_empty b (bit y) (sym q ∙ n))
reads h (Ok None) (Err e) a b (n, _) (k, (front, f), _, _) = absurd (not_empty front (bad k) (sym f ∙ n))
reads h (Ok (Some x)) (Ok None) a b p (n, _) = absurd (not_empty a (bit x) (sym p ∙ n))
reads h (Ok (Some x)) (Ok (Some y)) a b p q =
    let n = newest a b (bit x) (bit y) (sym p ∙ q) in
    let m : bit x ≡ bit y = n.1 in
    let e : x ≡ y = cc in
    (ap (λ z. Ok (Some z)) e, n.0)
reads h (Ok (Some x)) (Err e) a b p (k, (front, f), _, _) =
    let n : bit x ≡ bad k = (newest a front (bit x) (bad k) (sym p ∙ f)).1 in
    let z : ◌≡◌ {A = ℕ} 0 1 = cc in
    absurd (omega arith)
reads h (Err e) (Ok None) a b (k, (front, f), _, _) (n, _) = absurd (not_empty front (bad k) (sym f ∙ n))
reads h (Err e) (Ok (Some x)) a b (k, (front, f), _, _) p =
    let n : bit x ≡ bad k = (newest b front (bit x) (bad k) (sym p ∙ f)).1 in
    let z : ◌≡◌ {A = ℕ} 0 1 = cc in
    absurd (omega arith)
reads h (Err d) (Err e) a b (j, (s, f), p, m) (k, (t, g), q, n) =
    let l : bad j ≡ bad k = (newest s t (bad j) (bad k) (sym f ∙ g)).1 in
    let i : j ≡ k = cc in
    (ap Err (p ∙ ap BadRecord i ∙ sym q), m ∙ sym n)

pub decodes : {S : Type 0} (o : Outcome S) (cs : List Cell) (r r' : Answer S) (a b : List Cell) → Decoded o cs r a → Decoded o cs r' b → (r ≡ r') × (a ≡ b)
decodes (symbol s n) cs r r' a b (p, m) (q, k) = (p ∙ sym q, m ∙ sym k)
decodes (refused why n) cs r r' a b (p, m) (q, k) = (p ∙ sym q, m ∙ sym k)
decodes (short why) cs r r' a b (p, m) (q, k) = (p ∙ sym q, m ∙ sym k)

symbol_reads : {S : Type 0} (h : List Cell) (outcome : List Bool → Outcome S) → Settles (SymbolRead h outcome)
symbol_reads h outcome r r' a b p q =
    let d = decodes (outcome (ahead (reverse h))) (reverse h) r r' (reverse a) (reverse b) p q in
    (d.0, reverse-same a b d.1)

pub calls_are_settled : (S : Type 0) → CallsAreSettled S
calls_are_settled S = record {
  write_bit = writes;
  encode_symbol = encodes;
  seal = seals;
  flush = flushes;
  read_bit = reads;
  decode_symbol = symbol_reads;
  unseal = unseals;
}
