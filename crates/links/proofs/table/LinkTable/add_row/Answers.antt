use Rattle.std.proofs.Common.{subst, rules}
use Rattle.std.proofs.lemmas.Result.{MatchResult-weaker}
use Rattle.model.specs.declared.link.Row.{Row}
use Rattle.links.specs.Histories.{RowTaken}
use Rattle.links.proofs.Handing.{row_done, err_and}
use Rattle.links.proofs.table.LinkTable.add_row.Goals as goal

pub returns : goal.returns
returns c = λ bytes at.
    row_done bytes c.args.i c.args.row at c.add.result c.map_err.result
    (subst (λ (q : Row). RowTaken c.args.self.now q c.add.result c.add.new.self) c.row_of.ensures c.add.ensures)
    (MatchResult-weaker c.add.result c.map_err.ensures.cases (λ x e. e) (λ y p. err_and c.map_err.result p (λ f q. search rules)))
