use Rattle.token_store.proofs.Taking.{only_as_stored, every_call_adds}
use Rattle.token_store.proofs.a_token_is_taken_only_as_often_as_stored.Goals as goal

pub returns : goal.returns
returns g c = record {
  calls = every_call_adds g.T.TokenStore.holds;
  taken = λ start xs nothing r. only_as_stored g.T.TokenStore.holds start nothing c.args.store.now xs r;
}
