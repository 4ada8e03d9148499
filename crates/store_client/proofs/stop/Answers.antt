use Rattle.store_client.proofs.Blocks.{block_stands}
use Rattle.store_client.proofs.stop.Goals as goal

pub returns : goal.returns
returns c =
    let e = c.remove_block.ensures in
    record { dense = e.dense; after = block_stands c.args.st.now c.remove_block.new.self c.args.base 3 c.remove_block.result e.there e.after e.says }
