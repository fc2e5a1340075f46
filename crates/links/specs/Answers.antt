-- The refusals behind the table's fault types.
use Rattle.std.specs.Prelude.{Ok, Err, Result}
use Rattle.model.specs.declared.refusal.Refusal.{Refusal}
use Rattle.model.specs.declared.refusal.Refusal.TheVariants.{SelfLink, TableFull}
use Rattle.model.specs.Refusals.{Answer}
use Rattle.links.specs.declared.answer.TableFault.{TableFault}
use Rattle.links.specs.declared.answer.TableFault.TheVariants.{SelfLink as SelfLinked, TableFull as Filled}

abbrev pub refusal_of : TableFault → Refusal
refusal_of SelfLinked = SelfLink
refusal_of Filled = TableFull

-- an answer of the table, with its fault told as a refusal
abbrev pub told : {A : Type 0} → Result A TableFault → Answer A
told (Ok x) = Ok x
told (Err e) = Err (refusal_of e)
