use Rattle.aio_sources.proofs.starting.add_one.Goals as goal

pub returns-clause-begun : goal.returns-clause-begun
returns-clause-begun g c = record {
  least = c.in-Ok.ensures.least;
  entries_are = c.in-Err.ensures.refused;
  back = c.in-Err.field-0-0;
  fails = c.in-Err.ensures.back;
}
