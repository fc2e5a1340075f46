use Rattle.model.proofs.RunSets.{accepted_exactly_when_one_link_sets_run, equal_words_exactly_when_equal_links}
use Rattle.model.proofs.runs.runs_stand_for_link_sets.Goals as goal

pub returns-clause-equal : goal.returns-clause-equal
returns-clause-equal c = equal_words_exactly_when_equal_links

pub returns-clause-exactly : goal.returns-clause-exactly
returns-clause-exactly c = accepted_exactly_when_one_link_sets_run
