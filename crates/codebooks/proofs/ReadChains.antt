-- Reads of a source, one after another.
use Rattle.std.proofs.Common.{◌≡◌, Bool, List, [], ◌∷◌, ◌++◌, Some, Ok, Option, sym, refl, ap, ◌∙◌, append_assoc}
use Rattle.model.specs.Cells.{Cell, bits}
use Rattle.model.specs.Refusals.{Answer}
use Rattle.model.specs.Sinks.{Read}
use Rattle.codebooks.specs.Chains.{ReadAll, Reached, no_read, read_then}
use Rattle.model.proofs.CellLists.{bits-append}

pub read_more : {S : Type 0} {reads : S → Answer (Option Bool) → S → Type 0} {s t u : S} {a b : List (Answer (Option Bool))} → ReadAll reads s a t → ReadAll reads t b u → ReadAll reads s (a ++ b) u
read_more no_read rest = rest
read_more (read_then x xs) rest = read_then x (read_more xs rest)

module _ {S : Type 0} (coming : S → List Cell) (reads : S → Answer (Option Bool) → S → Type 0) where
  -- The bits v were read, and lead from s to t.
  pub record Past (v : List Bool) (s t : S) : Type 0 where
    pub were : coming s ≡ bits v ++ coming t
    pub reached : Reached reads s t

  pub past_none : (s : S) → Past [] s s
  past_none s = record { were = refl; reached = ([], no_read) }

  -- One read more.
  pub reached_next : (s t u : S) (a : Answer (Option Bool)) → Reached reads s t → reads t a u → Reached reads s u
  reached_next s t u a (answers, r) d = (answers ++ (a ∷ []), read_more r (read_then d no_read))

  -- One bit more.
  pub past_bit : (v : List Bool) (b : Bool) (s t u : S) → Past v s t → Read (coming t) (Ok (Some b)) (coming u) → reads t (Ok (Some b)) u → Past (v ++ (b ∷ [])) s u
  past_bit v b s t u p m d = record {
    were = p.were ∙ ap (λ x. bits v ++ x) m ∙ sym (append_assoc (bits v) (bits (b ∷ [])) (coming u)) ∙ ap (λ x. x ++ coming u) (sym (bits-append v (b ∷ [])));
    reached = reached_next s t u (Ok (Some b)) p.reached d;
  }
