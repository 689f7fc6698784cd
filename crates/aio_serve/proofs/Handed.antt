-- Connections that a port handed out, one after the other.
use Rattle.std.proofs.Common.{◌∙◌, [], ◌∷◌, ◌++◌, List, Option, None, Some, Ok, Err, refl, sym, ap, append_assoc}
use Rattle.aio_base.specs.Connections.{HandsOut}
use Rattle.aio_base.specs.declared.outcomes.Failed.{Failed}
use Rattle.aio_serve.specs.Accepted.{HandedOut}

module _ {C : Type 0} where
  pub none_handed : (told : Option (List C)) → HandedOut told [] told
  none_handed None = tt
  none_handed (Some told) = refl

  -- one more
  pub one_handed : (told left after : Option (List C)) (conns : List C) (conn : C) → HandedOut told conns left → HandsOut left (Ok conn) after → HandedOut told (conns ++ conn ∷ []) after
  one_handed None None None conns conn handed next = handed
  one_handed None None (Some after) conns conn handed next = next
  one_handed None (Some left) after conns conn handed next = absurd handed
  one_handed (Some told) None after conns conn handed next = absurd handed
  one_handed (Some told) (Some left) None conns conn handed next = next
  one_handed (Some told) (Some left) (Some after) conns conn handed next = handed ∙ ap (λ (l : List C). conns ++ l) next ∙ sym (append_assoc conns (conn ∷ []) after)

  -- or none, where an accept failed
  pub none_more : (told left after : Option (List C)) (conns : List C) (failed : Failed) → HandedOut told conns left → HandsOut left (Err failed) after → HandedOut told conns after
  none_more None None None conns failed handed next = handed
  none_more None None (Some after) conns failed handed next = next
  none_more None (Some left) after conns failed handed next = absurd handed
  none_more (Some told) None after conns failed handed next = absurd handed
  none_more (Some told) (Some left) None conns failed handed next = next
  none_more (Some told) (Some left) (Some after) conns failed handed next = handed ∙ ap (λ (l : List C). conns ++ l) (sym next)
