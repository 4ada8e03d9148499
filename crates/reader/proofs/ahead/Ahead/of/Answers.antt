use Rattle.reader.proofs.Nexts.{sign_ahead}
use Rattle.reader.proofs.ahead.Ahead.of.Goals as goal

pub returns-in-Sign-clause-means : goal.returns-in-Sign-clause-means
returns-in-Sign-clause-means c = rw c.in-Sign.is (sign_ahead c.in-Sign.sign c.args.joined)
