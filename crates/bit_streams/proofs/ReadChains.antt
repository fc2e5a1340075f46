-- Symbols read one after the other into a slice.
use Rattle.std.proofs.Common.{◌≡◌, ℕ, ◌+◌, ◌<◌, ◌≤◌, Bool, List, [], ◌∷◌, ◌++◌, length, get_or, drop, set, replicate, Ok, Err, sym, refl, ap, ◌∙◌, subst, append_assoc, append-nil, arith}
use Rattle.std.proofs.lemmas.List.{drop_all, drop_more, get_or-replicate, length-replicate, length_push}
use Rattle.std.proofs.Math.Seq.{set-append_seam}
use Rattle.model.specs.declared.refusal.Refusal.{Refusal}
use Rattle.model.specs.Codebooks.{Outcome}
use Rattle.model.specs.Refusals.{Answer}
use Rattle.bit_streams.specs.Several.{DecodedAll, ReadInto, none_asked, one_not_read, one-read}

pub drop-replicate : {A : Type 0} (i n : ℕ) (a : A) → i < n → drop i (replicate n a) ≡ a ∷ drop (i + 1) (replicate n a)
drop-replicate i n a l =
    drop_more (replicate n a) i a (omega (arith, length-replicate n a)) ∙ ap (λ x. x ∷ drop (i + 1) (replicate n a)) (get_or-replicate n i a a l)

-- the slot behind those that are filled
set_behind : {X : Type 0} (xs before : List X) (y : X) → length xs < length before → set (xs ++ drop (length xs) before) (length xs) y ≡ (xs ++ (y ∷ [])) ++ drop (length xs + 1) before
set_behind xs before y l =
    ap (λ z. set (xs ++ z) (length xs) y) (drop_more before (length xs) y l)
    ∙ set-append_seam xs (get_or before (length xs) y) (drop (length xs + 1) before) y ∙ sym (append_assoc xs (y ∷ []) (drop (length xs + 1) before))

module _ {S X : Type 0} (decodes : S → (List Bool → Outcome X) → Answer X → S → Type 0) (s : S) (outcomes : List (List Bool → Outcome X)) (before : List X) where
  -- the first i are read, stand in their slots, and brought the stream from s to t
  pub record ReadSoFar (i : ℕ) (slots : List X) (t : S) : Type 0 where
    pub symbols : List X
    pub many : length symbols ≡ i
    pub filled : slots ≡ symbols ++ drop i before
    pub calls : (ys : List X) (r : Answer (Unit {0})) (u : S) → DecodedAll decodes t (drop i outcomes) ys r u → DecodedAll decodes s outcomes (symbols ++ ys) r u

  pub none_yet : ReadSoFar 0 before s
  none_yet = record { symbols = []; many = refl; filled = refl; calls = λ ys r u d. d }

  module _ (i : ℕ) (slots : List X) (t : S) (h : ReadSoFar i slots t) (o : List Bool → Outcome X) (next : drop i outcomes ≡ o ∷ drop (i + 1) outcomes) where
    pub one_more : (x : X) (u : S) → i < length before → decodes t o (Ok x) u → ReadSoFar (i + 1) (set slots i x) u
    one_more x u l d = record {
      symbols = h.symbols ++ (x ∷ []);
      many = length_push h.symbols x ∙ ap (λ k. k + 1) h.many;
      filled = ap (λ z. set z i x) h.filled ∙ subst (λ k. set (h.symbols ++ drop k before) k x ≡ (h.symbols ++ (x ∷ [])) ++ drop (k + 1) before) h.many (set_behind h.symbols before x (omega (arith, h.many)));
      calls = λ ys r v rest.
          subst (λ z. DecodedAll decodes s outcomes z r v) (sym (append_assoc h.symbols (x ∷ []) ys))
          (h.calls (x ∷ ys) r v (subst (λ os. DecodedAll decodes t os (x ∷ ys) r v) (sym next) (one-read d rest)));
    }

    pub not_read : (e : Refusal) (u : S) → decodes t o (Err e) u → (into : ReadInto decodes s outcomes before (Err e) slots u) × (i ≡ length into.symbols)
    not_read e u d = (
      record {
        symbols = h.symbols;
        calls = subst (λ z. DecodedAll decodes s outcomes z (Err e) u) (append-nil h.symbols) (h.calls [] (Err e) u (subst (λ os. DecodedAll decodes t os [] (Err e) u) (sym next) (one_not_read d)));
        slots = h.filled ∙ ap (λ k. h.symbols ++ drop k before) (sym h.many);
      },
      sym h.many,
    )

  pub all_read : (i : ℕ) (slots : List X) (t : S) → ReadSoFar i slots t → length outcomes ≤ i → ReadInto decodes s outcomes before (Ok tt) slots t
  all_read i slots t h ge = record {
    symbols = h.symbols;
    calls = subst (λ z. DecodedAll decodes s outcomes z (Ok tt) t) (append-nil h.symbols) (h.calls [] (Ok tt) t (subst (λ os. DecodedAll decodes t os [] (Ok tt) t) (sym (drop_all i outcomes ge)) none_asked));
    slots = h.filled ∙ ap (λ k. h.symbols ++ drop k before) (sym h.many);
  }
