use Rattle.std.proofs.Common.{◌<◌, ◌≤◌, length, sym, arith}
use Rattle.links.proofs.Finding.{found_here, another_here, none_here}
use Rattle.links.proofs.table.ops.found_at.Goals as goal

pub returns-in-Some : goal.returns-in-Some
returns-in-Some c =
    let look = c.in-Some.ensures.lookup in
    let lt : c.args.at < length c.args.links.now = grind (arith, look) in
    found_here c.args.link c.in-Some.here.now c.args.links.now c.args.at c.requires.order lt look.1 (sym c.if-eq.ensures)

pub returns-in_default : goal.returns-in_default
returns-in_default c =
    let look = c.in-Some.ensures.lookup in
    let lt : c.args.at < length c.args.links.now = grind (arith, look) in
    another_here c.args.link c.in-Some.here.now c.args.links.now c.args.at c.requires.order c.requires.ends c.requires.place lt look.1 (sym c.if-eq.ensures)

pub returns-in_default-2 : goal.returns-in_default-2
returns-in_default-2 c =
    let past : length c.args.links.now ≤ c.args.at = grind (arith, c.get.ensures, c.in_default.is) in
    none_here c.args.link c.args.links.now c.args.at c.requires.order c.requires.ends c.requires.place past
