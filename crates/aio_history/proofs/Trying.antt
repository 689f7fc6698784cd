-- Steps on which the definition of a history is tried.
use Rattle.std.proofs.Common.{reverse, refl}
use Rattle.aio_history.specs.Histories.{Replays}
use Rattle.aio_history.specs.Tried.{EachFails, worked_steps, wrong_pasts}

pub worked_replay : Replays (reverse worked_steps)
worked_replay = (refl, (refl, (refl, (refl, (refl, (refl, tt))))))

pub wrong_refused : EachFails wrong_pasts
wrong_refused = (
  (λ r. cc r.0, (refl, tt)),
  (
    (λ r. cc r.0, (refl, (refl, (refl, tt)))),
    (
      (λ r. cc r.0, (refl, (refl, tt))),
      (
        (λ r. cc r.0, (refl, (refl, (refl, tt)))),
        (
          (λ r. cc r.0, (refl, (refl, tt))),
          (
            (λ r. cc r.0, (refl, (refl, (refl, tt)))),
            (
              (λ r. cc r.0, (refl, (refl, (refl, tt)))),
              (
                (λ r. cc r.0, (refl, (refl, (refl, tt)))),
                (
                  (λ r. cc r.0, (refl, (refl, tt))),
                  (
                    (λ r. cc r.0, (refl, tt)),
                    (
                      (λ r. cc r.0, (refl, tt)),
                      (
                        (λ r. cc r.0, (refl, (refl, tt))),
                        tt,
                      ),
                    ),
                  ),
                ),
              ),
            ),
          ),
        ),
      ),
    ),
  ),
)
