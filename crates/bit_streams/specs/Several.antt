-- Symbols of a list, one after the other.
use Rattle.std.specs.Prelude.{◌≡◌, Bool, List, [], ◌∷◌, ◌++◌, length, drop, Ok, Err, Option}
use Rattle.std.specs.Iterator.{AlwaysYields}
use denote.Ref.{Bor}
use Rattle.model.specs.declared.refusal.Refusal.{Refusal}
use Rattle.model.specs.Codebooks.{Outcome}
use Rattle.model.specs.Refusals.{Answer}

-- the codeword of a symbol that is given with its codebook
abbrev pub code_of : {X C : Type 0} → (C → X → Option (List Bool)) → X × C → Option (List Bool)
code_of code p = code p.1 p.0

-- the same, where the codebook is lent
abbrev pub code_of_lent : {X C : Type 0} → (C → X → Option (List Bool)) → X × Bor C → Option (List Bool)
code_of_lent code p = code p.1.now p.0

-- An iterator gives values, one after the other, that f takes to ys, and then ends.
unfoldable pub Gives : {I X Y : Type 0} → (I → Option X → I → Type 0) → (X → Y) → I → List Y → Type 0
Gives gives f from ys = AlwaysYields gives f from ys

-- Symbols read one after the other, by what decoding each comes to, up to the first that is refused: just these reads were made, with these
-- symbols, and no more is tried after a refusal.
pub data DecodedAll {S X : Type 0} (decodes : S → (List Bool → Outcome X) → Answer X → S → Type 0) : S → List (List Bool → Outcome X) → List X → Answer (Unit {0}) → S → Type 0 where
  none_asked : {s : S} → DecodedAll decodes s [] [] (Ok tt) s
  one-read : {s t u : S} {o : List Bool → Outcome X} {os : List (List Bool → Outcome X)} {x : X} {xs : List X} {r : Answer (Unit {0})} → decodes s o (Ok x) t → DecodedAll decodes t os xs r u → DecodedAll decodes s (o ∷ os) (x ∷ xs) r u
  one_not_read : {s t : S} {o : List Bool → Outcome X} {os : List (List Bool → Outcome X)} {e : Refusal} → decodes s o (Err e) t → DecodedAll decodes s (o ∷ os) [] (Err e) t

-- Symbols were read into a slice: those before the first refused stand in its first slots, and the other slots are as before.
pub record ReadInto {S X : Type 0} (decodes : S → (List Bool → Outcome X) → Answer X → S → Type 0) (s : S) (outcomes : List (List Bool → Outcome X)) (before : List X) (r : Answer (Unit {0})) (after : List X) (t : S) : Type 0 where
  pub symbols : List X
  pub calls : DecodedAll decodes s outcomes symbols r t
  pub slots : after ≡ symbols ++ drop (length symbols) before
