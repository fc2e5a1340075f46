use Rattle.std.proofs.Common.{◌≡◌, ◌<◌, Bool, List, [], ◌∷◌, ◌++◌, length, take, Ok, Err, Result, sym, refl, ap, ◌∙◌, append-nil, arith}
use Rattle.std.specs.Prelude.{OnOk, OnErr, IsOk, IsErrAnd, MatchResult}
use Rattle.std.proofs.lemmas.Result.{on_err_weaker}
use Rattle.model.specs.Cells.{bits}
use Rattle.model.specs.Sinks.{Emitted, more}
use Rattle.model.proofs.CellLists.{bits-append, length-bits}
use Rattle.words.specs.declared.fault.BoundedWriteError.{BoundedWriteError}
use Rattle.words.specs.declared.fault.BoundedWriteError.TheVariants.{OutOfSpace}
use Rattle.backends.specs.Answers.{told_write}
use Rattle.codebooks.specs.Scratches.{scratch_bits}
use Rattle.codebooks.proofs.scratch.calls.ScratchBitSink.emit.Goals as goal

-- What came of a bit, by what came of it in the list: xs before, and ys after.
took : {E : Type 0} (Q : E → BoundedWriteError → Type 0) (xs ys : List Bool) (b : Bool) (pushed : Result (Unit {0}) E) (r : Result (Unit {0}) BoundedWriteError) → (IsOk pushed → length xs < 256) → OnOk pushed (ys ≡ xs ++ (b ∷ [])) → OnErr pushed (ys ≡ xs) → OnErr pushed (length xs ≡ 256) → MatchResult pushed (λ x. r ≡ Ok x) (λ e. IsErrAnd r (Q e)) → Emitted (b ∷ []) (record { taken = bits xs; limit = 256 }) (told_write r) (record { taken = bits ys; limit = 256 })
took Q xs ys b (Ok x) r room ok same full cases =
    let l = length-bits xs in
    let few : length xs < 256 = room refl in
    rw cases (omega (arith, l), ap bits ok ∙ bits-append xs (b ∷ []), refl)
took Q xs ys b (Err e) (Ok x) room ok same full cases = absurd cases
took Q xs ys b (Err e) (Err OutOfSpace) room ok same full cases =
    let l = length-bits xs in
    let f : length xs ≡ 256 = full in
    let z : more (record { taken = bits xs; limit = 256 }) ≡ 0 = omega arith in
    (refl, (omega (arith, z), ap bits same ∙ sym (ap (λ k. bits xs ++ bits (take k (b ∷ []))) z ∙ append-nil (bits xs)), refl))

pub returns-clause-means : goal.returns-clause-means
returns-clause-means c = took _ (scratch_bits c.args.self.now) c.try_push.new.self.items c.args.bit c.try_push.result c.map_err.result c.try_push.ensures.variant.0 c.try_push.ensures.ok (on_err_weaker c.try_push.result (λ e. ap (λ v. v.items) e) c.try_push.ensures.err) c.try_push.ensures.full c.map_err.ensures.cases
