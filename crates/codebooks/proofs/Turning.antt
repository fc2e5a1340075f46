-- A codeword in a scratch, and the codeword in the other direction.
use Rattle.std.proofs.Common.{◌≡◌, Bool, List, [], ◌++◌, reverse, Some, None, Ok, Option, sym, refl, ap, ◌∙◌, subst}
use Rattle.std.proofs.lemmas.List.{reverse-reverse}
use Rattle.model.specs.Cells.{bits}
use Rattle.model.specs.Refusals.{Answer}
use Rattle.model.specs.Sinks.{Encoded, Sink, reversed}
use Rattle.model.proofs.Packing.{bits-same}
use Rattle.codebooks.specs.Chains.{HandedOver}
use Rattle.codebooks.specs.Collected.{Coded}
use Rattle.codebooks.specs.declared.scratch.Scratch.{Scratch}
use Rattle.codebooks.specs.Scratches.{scratch_bits, scratch_sink}
use Rattle.codebooks.specs.Sent.{Sent}

pub reversed_twice : (o : Option (List Bool)) → reversed (reversed o) ≡ o
reversed_twice (Some v) = ap Some (reverse-reverse v)
reversed_twice None = refl

-- Bits that are handed over are those of a codeword.
pub coded : {S : Type 0} (held : S → Sink) (emits : S → Bool → Answer (Unit {0}) → S → Type 0) (v : List Bool) (s t : S) (r : Answer (Unit {0})) → Sent held emits v s r t → (code : Option (List Bool)) → code ≡ Some v → Coded held emits code s r t
coded held emits v s t r a code e = record {
  means = subst (λ x. Encoded x (held s) r (held t)) (sym e) a.means;
  does = subst (λ x. HandedOver emits x s r t) (sym e) a.does;
}

-- A scratch that was empty has taken all of a codeword.
whole : (o : Option (List Bool)) (before after : Scratch) → scratch_bits before ≡ [] → Encoded o (scratch_sink before) (Ok tt) (scratch_sink after) → o ≡ Some (scratch_bits after)
whole None before after empty (e, same) = cc
whole (Some v) before after empty (room, e, l) = ap Some (sym (bits-same (scratch_bits after) v (e ∙ ap (λ w. bits w ++ bits v) empty)))

-- The bits of that scratch, newest first, are the codeword in the other direction.
pub turned : {S : Type 0} (held : S → Sink) (emits : S → Bool → Answer (Unit {0}) → S → Type 0) (o code : Option (List Bool)) (before after : Scratch) (s t : S) (r : Answer (Unit {0})) → reversed o ≡ code → scratch_bits before ≡ [] → Encoded o (scratch_sink before) (Ok tt) (scratch_sink after) → Sent held emits (reverse (scratch_bits after)) s r t → Coded held emits code s r t
turned held emits o code before after s t r is empty taken sent = coded held emits (reverse (scratch_bits after)) s t r sent code (sym is ∙ ap reversed (whole o before after empty taken))
