-- Whole histories of rows on a table.
use Rattle.std.specs.Prelude.{◌≡◌, ◌↔◌, List, [], ◌∷◌, map, length, Ok, Err, Result, ◌≢◌}
use Rattle.model.specs.declared.link.Link.{Link}
use Rattle.model.specs.declared.link.Row.{Row}
use Rattle.model.specs.Links.{In, LinkSet, SameLinks}
use Rattle.model.specs.Rows.{settled, Named, SameRows}
use Rattle.links.specs.declared.answer.Added.{Added}
use Rattle.links.specs.declared.answer.Added.TheVariants.{New}
use Rattle.links.specs.declared.answer.TableFault.{TableFault}
use Rattle.links.specs.declared.answer.TableFault.TheVariants.{TableFull}
use Rattle.links.specs.declared.table.LinkTable.{LinkTable}
use Rattle.links.specs.Answers.{told}
use Rattle.links.specs.Rows.{answer_to, links_after}
use Rattle.links.specs.Tables.{links_of}

-- What `add` does with a row: its answer, the table's links after it, and that the table is the same value but for a new link.
pub record RowTaken (t : LinkTable) (row : Row) (answer : Result Added TableFault) (t' : LinkTable) : Type 0 where
  pub answers : told answer ≡ answer_to (links_of t) row
  pub links : links_of t' ≡ links_after (links_of t) row
  pub same : (answer ≢ Ok New) → t' ≡ t

-- a call of `add`, with its answer
pub record RowCall : Type 0 where
  pub row : Row
  pub answer : Result Added TableFault

-- the rows of calls, refused ones included
abbrev pub rows_of : List RowCall → List Row
rows_of calls = map (λ c. c.row) calls

-- calls of `add`, one after the other, from a table to a table
pub data RowChain : LinkTable → List RowCall → LinkTable → Type 0 where
  no_row : {t : LinkTable} → RowChain t [] t
  row_then : {t u v : LinkTable} {call : RowCall} {calls : List RowCall} → RowTaken t call.row call.answer u → RowChain u calls v → RowChain t (call ∷ calls) v

-- After any list of rows on this table, which is new, refused rows included, the links are exactly those that the rows settle; and they
-- are a link set in ascending order, so that each stands once.
pub record RowsSettleTheLinks (new : LinkTable) : Type 0 where
  pub links : (calls : List RowCall) (t : LinkTable) → RowChain new calls t → SameLinks (links_of t) (settled (rows_of calls))
  pub count : (calls : List RowCall) (t : LinkTable) → RowChain new calls t → length (links_of t) ≡ length (settled (rows_of calls))
  pub ascends : (calls : List RowCall) (t : LinkTable) → RowChain new calls t → LinkSet (links_of t)

-- no row was refused since the table was full
abbrev pub NoneRefusedFull : List RowCall → Type 0
NoneRefusedFull [] = Unit {0}
NoneRefusedFull (c ∷ cs) = (c.answer ≢ Err TableFull) × NoneRefusedFull cs

-- Where no row is refused since the table is full, its links are exactly those that the rows name, and rows that name the same links
-- leave the same table, whatever their order and direction and however often they come.
pub record OrderIsFree (new : LinkTable) : Type 0 where
  pub named : (calls : List RowCall) (t : LinkTable) → RowChain new calls t → NoneRefusedFull calls → (l : Link) → In l (links_of t) ↔ Named (rows_of calls) l
  pub equal :
      (calls others : List RowCall) (t u : LinkTable)
      → RowChain new calls t
      → RowChain new others u
      → NoneRefusedFull calls
      → NoneRefusedFull others
      → SameRows (rows_of calls) (rows_of others)
      → t ≡ u
