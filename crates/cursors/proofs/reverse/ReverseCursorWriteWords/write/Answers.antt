use Rattle.backends.specs.Answers.{told_write}
use Rattle.cursors.proofs.Turns.{put_means}
use Rattle.cursors.proofs.reverse.ReverseCursorWriteWords.write.Goals as goal

pub returns-clause-means : goal.returns-clause-means
returns-clause-means g c = put_means g.W.Word.value c.args.self.now.0 c.put_below.new.self c.args.word (told_write c.put_below.result) c.put_below.ensures
