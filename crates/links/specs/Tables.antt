-- The links of a table.
use Rattle.std.specs.Prelude.{List}
use Rattle.model.specs.declared.link.Link.{Link}
use Rattle.links.specs.declared.table.LinkTable.{LinkTable}

-- the links that a table holds, in its order
abbrev pub links_of : LinkTable → List Link
links_of t = t.links.items
