-- The single calls of sinks and sources that calls of codebooks are made of.
use Rattle.std.specs.Prelude.{◌≡◌, Bool, List, [], ◌∷◌, Some, None, Err, Option}
use Rattle.model.specs.declared.refusal.Refusal.TheVariants.{Unlisted}
use Rattle.model.specs.Refusals.{Answer}
use Rattle.backends.specs.Chains.{WroteAll}

-- The bits of a codeword, handed to a sink one by one up to the first that is refused, and no more after it; where there is none, no call
-- is made.
abbrev pub HandedOver : {S : Type 0} → (S → Bool → Answer (Unit {0}) → S → Type 0) → Option (List Bool) → S → Answer (Unit {0}) → S → Type 0
HandedOver emits (Some v) s r t = WroteAll emits s v r t
HandedOver emits None s r t = (r ≡ Err Unlisted) × (t ≡ s)

-- Reads of a source, one after the other, with these answers.
pub data ReadAll {S : Type 0} (reads : S → Answer (Option Bool) → S → Type 0) : S → List (Answer (Option Bool)) → S → Type 0 where
  no_read : {s : S} → ReadAll reads s [] s
  read_then : {s t u : S} {a : Answer (Option Bool)} {rest : List (Answer (Option Bool))} → reads s a t → ReadAll reads t rest u → ReadAll reads s (a ∷ rest) u

-- Some reads, one after the other, lead from s to t.
abbrev pub Reached : {S : Type 0} → (S → Answer (Option Bool) → S → Type 0) → S → S → Type 0
Reached reads s t = (answers : List (Answer (Option Bool))) × ReadAll reads s answers t
