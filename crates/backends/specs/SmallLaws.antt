-- Lemma: the law of the small store as a source.
use Rattle.std.specs.Prelude.{reverse}
use Rattle.std.proofs.Common.{arith}
use Rattle.model.specs.Cells.{Fits}
use Rattle.backends.specs.declared.small.SmallStore.{SmallStore}
use Rattle.backends.specs.Small.{long_word, small_places}
use Rattle.backends.specs.Sources.{AllFit}
use Rattle.backends.specs.StoreLaws.{all_fit, each-reverse}

-- every word is of 64 bits
pub small_fits : (s : SmallStore) → AllFit 64 (reverse (small_places s))
small_fits s = each-reverse (Fits 64) (small_places s) (all_fit 64 long_word (λ x. omega arith) s.words.items)
