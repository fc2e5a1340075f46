-- Lemma: the law of a text as a sink.
use Rattle.std.specs.Prelude.{◌≤◌, length, take}
use Rattle.std.proofs.Common.{arith}
use Rattle.std.proofs.lemmas.List.{length-map, length-take}
use Rattle.codebook_edges.specs.declared.written.WrittenText.{WrittenText}
use Rattle.codebook_edges.specs.Texts.{cell_of, text_sink}

-- it never holds more bits than it has room for
pub text_within : (s : WrittenText) → length (text_sink s).taken ≤ (text_sink s).limit
text_within s = omega (arith, length-map (take s.len s.text.now) cell_of, length-take s.len s.text.now)
