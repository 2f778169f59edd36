use Rattle.token_log.proofs.bloom_log.LogMemory+Vec+u64.allocate.Goals as goal

pub returns-clause-no_more : goal.returns-clause-no_more
returns-clause-no_more c k h = (c.in_ok-one.ensures.no_more k h, c.in_ok-two.ensures.no_more k h)
