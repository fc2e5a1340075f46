-- Opening a run: which places open, to which cells, and that opening is settled and always answers.
use Rattle.std.proofs.Common.{◌≡◌, ℕ, zero, suc, ◌-◌, ◌%◌, ◌<◌, Bool, true, false, List, [], ◌∷◌, ◌++◌, reverse, length, replicate, Ok, Err, sym, refl, ap, ◌∙◌, subst, inl, inr, ⊎_elim, append_assoc, append-nil, add-one, arith, length-append}
use mathlib.Core.List.{reverse-reverse}
use lib.ListN.{length-replicate}
use Rattle.std.proofs.lemmas.List.{replicate_more}
use Rattle.model.specs.declared.refusal.Refusal.TheVariants.{Unsealed, BadRecord, Bare}
use Rattle.model.specs.Bits.{low_bits, zeros}
use Rattle.model.specs.Cells.{Place, word, fault, Fits, word_places, Cell, bad, bits, cells_of, mark}
use Rattle.model.specs.Coders.{SealTaken}
use Rattle.model.specs.Links.{Each}
use Rattle.model.specs.Reading.{RunOpened}
use Rattle.model.specs.Refusals.{Answer}
use Rattle.model.specs.Runs.{sealed_words, sealed}
use Rattle.model.proofs.CellLists.{bits-append, reverse_bits}
use Rattle.model.proofs.OneAnswer.{calls_are_settled, reverse-same}
use Rattle.model.proofs.Packing.{length-low_bits, last_one, at_edge, length-cells_of, cells_of-append, cells_sealed, sealed-mark, places_sealed}

-- places that open to bits are the sealed words of these bits
pub opened_is : (w : ℕ) (ps : List Place) (coming : List Cell) (v : List Bool) → 0 < w → Each (Fits w) ps → RunOpened w ps (Ok tt) coming → coming ≡ bits v → ps ≡ word_places (sealed_words w (reverse v))
opened_is w [] coming v pos f (e, _) b = let no : ◌≡◌ {A = ℕ} 0 1 = cc in absurd (omega arith)
opened_is w (p ∷ ps) coming v pos f (_, inl (none, _)) b =
    let l : length (cells_of w (p ∷ ps)) ≡ 0 = ap length none in
    absurd (omega (arith, length-cells_of w (p ∷ ps)))
opened_is w (p ∷ ps) coming v pos f (_, inr (z, h, e)) b =
    places_sealed w (p ∷ ps) (reverse v) z pos f h (e ∙ ap (λ t. t ++ mark z) (ap reverse b ∙ reverse_bits v))

-- and sealed words open to their bits
opens : (w : ℕ) (ps : List Place) (bs : List Bool) → 0 < w → cells_of w ps ≡ bits (sealed w bs) → RunOpened w ps (Ok tt) (bits (reverse bs))
opens w [] bs pos e =
    let z = (w - 1) - length bs % w in
    let c : [] ≡ bits bs ++ mark z = e ∙ sealed-mark w bs in
    absurd (omega (arith, ap length c, length-append (bits bs) (mark z)))
opens w (p ∷ ps) bs pos e =
    let z = (w - 1) - length bs % w in
    let t : reverse (bits (reverse bs)) ≡ bits bs = reverse_bits (reverse bs) ∙ ap bits (reverse-reverse bs) in
    (at_edge w (p ∷ ps) pos, inr (z, omega arith, e ∙ sealed-mark w bs ∙ ap (λ u. u ++ mark z) (sym t)))

pub sealed_opens : (w : ℕ) (bs : List Bool) → 0 < w → RunOpened w (word_places (sealed_words w bs)) (Ok tt) (bits (reverse bs))
sealed_opens w bs pos = opens w (word_places (sealed_words w bs)) bs pos (cells_sealed w bs pos)

pub opened_once : (w : ℕ) (ps : List Place) (r r' : Answer (Unit {0})) (a b : List Cell) → 0 < w → RunOpened w ps r a → RunOpened w ps r' b → (r ≡ r') × (a ≡ b)
opened_once w [] r r' a b pos (p, m) (q, n) = (p ∙ sym q, m ∙ sym n)
opened_once w (x ∷ ps) r r' a b pos p q =
    let s = (calls_are_settled ℕ).unseal w (cells_of w (x ∷ ps)) pos r r' (reverse a) (reverse b) p q in
    (s.0, reverse-same a b s.1)

-- ---- some answer

newest_place : (p : Place) (ps : List Place) → (front : List Place) × (q : Place) × (p ∷ ps ≡ front ++ (q ∷ []))
newest_place p [] = ([], p, refl)
newest_place p (x ∷ ps) = let (front, q, e) = newest_place x ps in (p ∷ front, q, ap (λ t. p ∷ t) e)

last_bad : (w k : ℕ) → 0 < w → (front : List Cell) × (replicate w (bad k) ≡ front ++ (bad k ∷ []))
last_bad zero k pos = absurd (omega arith)
last_bad (suc w) k pos = (replicate w (bad k), ap (λ n. replicate n (bad k)) (sym (add-one w)) ∙ sym (replicate_more w (bad k)))

-- the unseal of cells that end with a place's
unsealed_some : (w : ℕ) (h front : List Cell) (q : Place) → 0 < w → length h % w ≡ 0 → h ≡ front ++ cells_of w (q ∷ []) → (r : Answer (Unit {0})) × (h' : List Cell) × SealTaken w h r h'
unsealed_some w h front (fault k) pos edge e =
    let (bads, f) = last_bad w k pos in
    let e' : h ≡ (front ++ bads) ++ (bad k ∷ []) = e ∙ ap (λ t. front ++ t) (append-nil (replicate w (bad k)) ∙ f) ∙ sym (append_assoc front bads (bad k ∷ [])) in
    (Err (BadRecord k), h, (inr (inl (k, refl, edge, (front ++ bads, e'))), refl))
unsealed_some w h front (word n) pos edge e =
    let c : h ≡ front ++ bits (low_bits w n) = e ∙ ap (λ t. front ++ t) (append-nil (bits (low_bits w n))) in
    ⊎_elim
    (λ z. let zero_word : low_bits w n ≡ zeros w = z ∙ ap (λ k. zeros k) (length-low_bits w n) in
    (Err Unsealed, h, (inr (inr (refl, edge, (front, c ∙ ap (λ t. front ++ bits t) zero_word))), refl)))
    (λ m. let (a, z, f) = m in
    let l : z < w = omega (arith, length-low_bits w n, ap length f, length-append a (true ∷ zeros z), length-replicate z false) in
    let e' : h ≡ (front ++ bits a) ++ mark z = c ∙ ap (λ t. front ++ bits t) f ∙ ap (λ t. front ++ t) (bits-append a (true ∷ zeros z)) ∙ sym (append_assoc front (bits a) (mark z)) in
    (Ok tt, front ++ bits a, (edge, inr (z, l, e'))))
    (last_one (low_bits w n))

pub opened_some : (w : ℕ) (ps : List Place) → 0 < w → (r : Answer (Unit {0})) × (coming : List Cell) × RunOpened w ps r coming
opened_some w [] pos = (Err Bare, [], (refl, refl))
opened_some w (p ∷ ps) pos =
    let (front, q, e) = newest_place p ps in
    let h = cells_of w (p ∷ ps) in
    let c : h ≡ cells_of w front ++ cells_of w (q ∷ []) = ap (cells_of w) e ∙ cells_of-append w front (q ∷ []) in
    let (r, h', s) = unsealed_some w h (cells_of w front) q pos (at_edge w (p ∷ ps) pos) c in
    (r, reverse h', subst (SealTaken w h r) (sym (reverse-reverse h')) s)
