-- Lemmas: the law of the cursor as a source.
use Rattle.std.specs.Prelude.{ℕ, ◌^◌, ◌<◌, reverse, take, drop}
use Rattle.model.specs.Cells.{Fits}
use Rattle.backends.specs.Slices.{word_at}
use Rattle.backends.specs.Sources.{AllFit}
use Rattle.backends.specs.StoreLaws.{all_fit, each-reverse}
use Rattle.cursors.specs.declared.cursor.Cursor.{Cursor}
use Rattle.cursors.specs.Cursors.{at, queued, room_of, stacked}

module _ {W : Type 0} (w : ℕ) (value : W → ℕ) (small : (x : W) → value x < 2 ^ w) where
  -- every word is of w bits
  pub stack_fits : (c : Cursor W) → AllFit w (reverse (stacked value c))
  stack_fits c = each-reverse (Fits w) (stacked value c) (all_fit w (word_at value) small (take (at c) c.buf.now))

  pub queue_fits : (c : Cursor W) → AllFit w (queued value c)
  queue_fits c = all_fit w (word_at value) small (drop (at c) (take (room_of c) c.buf.now))
