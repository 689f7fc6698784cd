use Rattle.std.proofs.Common.{refl, ◌∙◌, rules, arith}
use Rattle.aio_future.proofs.timer.Timer.change_to.Goals as goal

pub returns-in-Err-Notify : goal.returns-in-Err-Notify
returns-in-Err-Notify g c =
    let told = rw c.in-Err-Notify.field-0-is at c.in-Err-Notify.ensures.notifier in
    let inserts = rw c.in-Err-Notify.field-0-is at c.in-Err-Notify.ensures.inserted in
    let same = g.H.Later.stays_sure _ _ c.unregister.ensures.later in
    record {
      spent = search rules;
      carried = record {
        done = record { mid = c.unregister.new.host; removal = search rules; insertion = search rules; timer = search rules };
        wanted = search rules;
        reached = refl;
        stays = c.unregister.ensures.cause.later;
        fails = record {
          cause = record {
            later = told.cause.later;
            rose = told.cause.rose;
            never = λ sure. told.cause.never (same ∙ sure);
          };
          counts = told.counts;
        };
      };
      ids = search rules;
      cause = record {
        later = omega (arith, c.unregister.ensures.cause.later, told.cause.later);
        rose = λ notify. omega (arith, c.unregister.ensures.cause.later, told.cause.rose refl);
        never = λ sure. absurd ((told.cause.never (same ∙ sure)).0 refl);
      };
      is_later = g.H.Later.later_than_later _ _ _ c.unregister.ensures.later c.in-Err-Notify.ensures.later;
      same_pass = search rules;
    }
