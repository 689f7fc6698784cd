-- What one visit of a source by its token is.
use Rattle.std.specs.Prelude.{◌≡◌, ℕ, List}
use Rattle.aio_base.specs.Devices.{raised}
use Rattle.aio_source.specs.declared.source.SourceCell.{SourceCell}
use Rattle.aio_sources.specs.Sources.{SourceRefValue}

-- a token that made one visit of its source, whose connection was left with this rest
abbrev pub visited_once : SourceRefValue → List ℕ → SourceRefValue
visited_once token rest = record token { rest = rest; visits = raised token.visits }

-- The source of a token was taken out of its lock, visited once, and put back as the visit left it; nothing else was done to it. The token then knows the
-- rest of the connection as it was left.
pub record VisitsSource {S B : Type 0} (rest : S → List ℕ) (visits : SourceCell S → B → SourceCell S → Type 0) (token left : SourceRefValue) (answer : B) : Type 0 where
  pub found : SourceCell S
  pub key_is : found.state.key.0 ≡ token.key
  pub rest_is : rest found.io ≡ token.rest
  pub put : SourceCell S
  pub visited : visits found answer put
  pub token_is : left ≡ visited_once token (rest put.io)
