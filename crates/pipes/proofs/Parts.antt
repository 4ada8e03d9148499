-- The theorems that the promise rests on.
use Rattle.pipes.specs.Says.{Parts}
use Rattle.grammar.proofs.Both.{unambiguous, parser_agrees}
use Rattle.meaning.proofs.Own.{isolated}
use Rattle.meaning.proofs.Queue.{queue_fair}
use Rattle.meaning.proofs.Core.{core_fair}
use Rattle.confluence.proofs.Confluence.{confluent}

pub parts : Parts
parts = record { unambiguous = unambiguous; parser_agrees = parser_agrees; isolated = isolated; queue_fair = queue_fair; core_fair = core_fair; confluent = confluent }
