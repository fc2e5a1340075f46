-- What a row does to a table's links.
use Rattle.std.specs.Prelude.{◌≡◌, Bool, true, cond, not, ◌&&◌, ◌||◌, List, [], ◌∷◌, length, Ok, Err, Result, ◌==◌, ◌≢◌, nat_le}
use Rattle.model.specs.declared.link.Link.{Link}
use Rattle.model.specs.declared.link.Row.{Row}
use Rattle.model.specs.declared.refusal.Refusal.TheVariants.{SelfLink, TableFull}
use Rattle.model.specs.Links.{is_link, link_of}
use Rattle.model.specs.Refusals.{Answer}
use Rattle.model.specs.Rows.{is_in, most_links}
use Rattle.links.specs.declared.answer.Added.{Added}
use Rattle.links.specs.declared.answer.Added.TheVariants.{New, Already}
use Rattle.links.specs.declared.answer.TableFault.{TableFault}
use Rattle.links.specs.declared.answer.TableFault.TheVariants.{SelfLink as SelfLinked}
use Rattle.links.specs.Order.{insert_link}

-- the link of a row, or that its ends are equal
abbrev pub Joined : Row → Result Link TableFault → Type 0
Joined r (Ok l) = (r.first ≢ r.second) × (l ≡ link_of r) × (is_link l ≡ true)
Joined r (Err e) = (r.first ≡ r.second) × (e ≡ SelfLinked)

-- as many links are in as a table takes, and l is none of them
abbrev pub full_for : Link → List Link → Bool
full_for l xs = nat_le most_links (length xs) && not (is_in l xs)

-- what a table with the links xs answers to a row
abbrev pub answer_to : List Link → Row → Answer Added
answer_to xs r =
    cond (r.first == r.second) (Err SelfLink) (
    cond (full_for (link_of r) xs) (Err TableFull) (cond (is_in (link_of r) xs) (Ok Already) (Ok New)))

-- the links after that row: it adds its link, unless its ends are equal or the table is full of others
abbrev pub links_after : List Link → Row → List Link
links_after xs r = cond (r.first == r.second || full_for (link_of r) xs) xs (insert_link (link_of r) xs)

-- the links after one row after another
abbrev pub links_after_rows : List Link → List Row → List Link
links_after_rows xs [] = xs
links_after_rows xs (r ∷ rs) = links_after_rows (links_after xs r) rs
