-- Connections in memory that are made of rows.
use Rattle.std.specs.Prelude.{◌≡◌, ℕ, Bool, if◌then◌else◌, List, [], ◌∷◌, max}
use Rattle.aio_devices.specs.Scripts.{new_script}
use Rattle.aio_conns.specs.Connections.{ScriptedConn}
use Rattle.aio_conns.specs.Given.{Turn, bytes_before}
use Rattle.aio_conns.specs.Given.Turn.{Blocks}
use Rattle.aio_conns.specs.Sent.{new_sending}
use Rattle.aio_conns.specs.declared.peers.Peer.{Peer}

-- the turns of two texts, between which a read is blocked where that is asked for
abbrev pub turns_between : List ℕ → Bool → List ℕ → List Turn
turns_between first blocks last = bytes_before first (if blocks then Blocks ∷ bytes_before last [] else bytes_before last [])

-- a connection to a peer, over which no call was made yet
pub record IsMadeFor (peer : Peer) (conn : ScriptedConn) : Type 0 where
  pub turns : conn.conn.giving.turns ≡ turns_between peer.first.now peer.blocks peer.last.now
  pub ends : conn.conn.giving.ends ≡ peer.ends
  pub sending : conn.conn.sending ≡ new_sending (max peer.at_once 1) peer.room
  pub script : conn.script ≡ new_script peer.fails.now
