use Rattle.words.specs.Parts.{mask_small, word_small}
use Rattle.words.proofs.part.Partial.at.Goals as goal

pub exact-requires : goal.exact-requires
exact-requires g c = word_small g.U.Unsigned.WIDTH c.args.mask c.args.word c.requires.below

pub exact-requires-2 : goal.exact-requires-2
exact-requires-2 g c = mask_small g.U.Unsigned.WIDTH c.args.mask c.requires.single
