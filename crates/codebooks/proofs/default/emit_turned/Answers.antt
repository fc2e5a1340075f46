use Rattle.std.proofs.Common.{◌≡◌, Bool, List, [], ◌∷◌, ◌++◌, reverse, sym, ap, ◌∙◌, append_assoc}
use Rattle.std.specs.List.{push}
use Rattle.std.proofs.lemmas.Result.{err_from_is_err_and}
use mathlib.Core.List.{reverse-append}
use Rattle.words.specs.Answers.{write_refusal}
use Rattle.codebooks.specs.Scratches.{scratch_bits}
use Rattle.codebooks.proofs.Sinking.{sent_bit, sent_none, sent_refused}
use Rattle.codebooks.proofs.default.emit_turned.Goals as goal

-- the next bit from the end
next : (w v front rest : List Bool) (b : Bool) → w ≡ v ++ reverse rest → rest ≡ push front b → w ≡ v ++ (b ∷ reverse front)
next w v front rest b e n = e ∙ ap (λ x. v ++ reverse x) n ∙ ap (λ x. v ++ x) (reverse-append front (b ∷ []))

pub loop-bit-init : goal.loop-bit-init
loop-bit-init g c =
    let s : c.into_iter-bit-iterator.result.iter.rest.now ≡ scratch_bits c.args.scratch.now =
    ap (λ i. i.iter.rest.now) c.into_iter-bit-iterator.ensures.into_iter_gives ∙ ap (λ i. i.rest.now) c.rev-bit-items.ensures.source ∙ c.iter.ensures.rest ∙ c.bits.ensures
    in ([], ap reverse (sym s), sent_none g.K.BitSink.held g.K.BitSink.emits c.args.sink.now (g.met.K.BitSink.within c.args.sink.now))

pub loop-bit-preserved : goal.loop-bit-preserved
loop-bit-preserved g c =
    let (v, e, s) = c.loop-bit.invariant in
    let b = c.in-Some.bit.now in
    let front = c.next.new.self.iter.rest.now in
    let n = next (reverse (scratch_bits c.args.scratch.now)) v front c.loop-bit.bit-iterator.iter.rest.now b e c.in-Some.ensures.steps in (
      v ++ (b ∷ []),
      n ∙ sym (append_assoc v (b ∷ []) (reverse front)),
      sent_bit g.K.BitSink.held g.K.BitSink.emits v b c.args.sink.now c.loop-bit.sink c.emit.new.self s c.in_ok-emit.ensures.means c.in_ok-emit.ensures.does,
    )

pub returns-in_err-emit : goal.returns-in_err-emit
returns-in_err-emit g c =
    let p = err_from_is_err_and c.from_residual.result c.from_residual.ensures.1 in
    let (v, e, s) = c.loop-bit.invariant in
    let b = c.in-Some.bit.now in
    let front = c.next.new.self.iter.rest.now in
    let n = next (reverse (scratch_bits c.args.scratch.now)) v front c.loop-bit.bit-iterator.iter.rest.now b e c.in-Some.ensures.steps in
    rw (p.1, p.2, n) (sent_refused g.K.BitSink.held g.K.BitSink.emits v b (reverse front) c.args.sink.now c.loop-bit.sink c.emit.new.self (write_refusal c.in_err-emit.field-0.0) s c.in_err-emit.ensures.means c.in_err-emit.ensures.does)
