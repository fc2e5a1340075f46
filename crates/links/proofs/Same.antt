-- A table is what its links are.
use Rattle.std.proofs.Common.{◌≡◌, ◌≤◌, true, length, ap}
use mathlib.Core.HLevel.{Σ_prop_path}
use denote.Struct.Props.{props}
use Rattle.model.specs.contracts.link.Link.{the_row}
use Rattle.model.specs.declared.link.Link.{Link}
use Rattle.arrayvec.specs.ArrayVec.{ArrayVec}
use Rattle.links.specs.declared.table.LinkTable.{LinkTable}
use Rattle.links.specs.Order.{ascending, proper}
use Rattle.links.specs.Tables.{links_of}

-- what the ghost fields say of the links
abbrev Facts : ArrayVec Link → Type 0
Facts v = (length v.items ≤ 2048) × (ascending v.items ≡ true) × (proper v.items ≡ true)

facts_prop : (v : ArrayVec Link) → IsProp (Facts v)
facts_prop v = hlevel (props, the_row.coded)

abbrev make : (v : ArrayVec Link) × Facts v → LinkTable
make p = record { links = p.0; room = p.1.0; order = p.1.1; ends = p.1.2 }

abbrev parts : LinkTable → (v : ArrayVec Link) × Facts v
parts t = (t.links, (t.room, t.order, t.ends))

pub same_table : (t u : LinkTable) → links_of t ≡ links_of u → t ≡ u
same_table t u e =
    let v : t.links ≡ u.links = λ i. record { items = e i } in
    ap make (Σ_prop_path facts_prop {u = parts t} {v = parts u} v)
