use Rattle.std.proofs.Common.{refl}
use Rattle.aio_shared.proofs.inside.Inside.enter_and_leave.Goals as goal

pub returns-clause-visits : goal.returns-clause-visits
returns-clause-visits g c = let one = c.visit-visited.ensures.visits in record {
  ticker = c.ticker-rounds.result;
  loaded = c.ticker-rounds.ensures.loaded;
  least = c.ticker-rounds.ensures.least;
  found = one.found;
  key_is = one.key_is;
  rest_is = one.rest_is;
  put = one.put;
  visited = (refl, one.visited);
  token_is = one.token_is;
}
