use Rattle.std.proofs.Common.{◌≡◌, ℕ, ◌-◌, ◌%◌, List, [], ◌∷◌, ◌++◌, length, Ok, Err, sym, refl, ap, inr, arith}
use Rattle.model.specs.declared.refusal.Refusal.TheVariants.{Full}
use Rattle.model.specs.Cells.{Cell, mark}
use Rattle.model.specs.Coders.{BitWritten, SealWritten, SealTaken}
use Rattle.model.specs.Golomb.{halvings, log2, codeword, code_at}
use Rattle.model.specs.Refusals.{Answer}
use Rattle.model.specs.Runs.{step_to, link_at, sealed, words_of, sealed_words}
use Rattle.model.specs.Settled.{Settles}
use Rattle.model.specs.Worked.{Gives, one_zero_one, eight_ones, bytes}
use Rattle.model.proofs.OneAnswer.{calls_are_settled}
use Rattle.model.proofs.examples.worked_examples.Goals as goal

-- what a settled call does is all that it does
given : (P : Answer (Unit {0}) → List Cell → Type 0) → Settles P → (r : Answer (Unit {0})) (h : List Cell) → P r h → Gives P r h
given P one r h p = record { does = p; only = λ q k x. one q r k h x p }

pub returns-clause-examples : goal.returns-clause-examples
unfolding halvings log2 codeword code_at step_to link_at sealed words_of sealed_words
returns-clause-examples c =
    let one = calls_are_settled ℕ in
    record {
      code_of_0 = refl;
      code_of_7 = refl;
      code_of_255 = refl;
      three_bits_seal = given (SealWritten 8 1 one_zero_one) (one.seal 8 1 one_zero_one) (Ok tt) (bytes (0x0D ∷ [])) (omega arith, refl);
      three_bits_unseal = given (SealTaken 8 (bytes (0x0D ∷ []))) (one.unseal 8 (bytes (0x0D ∷ [])) (omega arith)) (Ok tt) one_zero_one (refl, inr (4, omega arith, refl));
      eight_ones_seal = given (SealWritten 8 2 eight_ones) (one.seal 8 2 eight_ones) (Ok tt) (bytes (0xFF ∷ 0x01 ∷ [])) (omega arith, refl);
      up_to_sixteen = λ h b l. given (BitWritten 8 1 h b) (one.write_bit 8 1 h b) (Ok tt) _ (l, refl);
      no_seventeenth = λ h b l. given (BitWritten 8 1 h b) (one.write_bit 8 1 h b) (Err Full) h (refl, l, refl);
      seven_seal = λ h l.
          let none : 8 - 1 - length h % 8 ≡ 0 = omega arith in
          given (SealWritten 8 1 h) (one.seal 8 1 h) (Ok tt) _ (omega arith, ap (λ (n : ℕ). h ++ mark n) (sym none));
      eight_do_not = λ h l. given (SealWritten 8 1 h) (one.seal 8 1 h) (Err Full) h (refl, omega arith, refl);
      three_links_symbols = refl;
      three_links_run = refl;
      no_links_run = refl;
    }
