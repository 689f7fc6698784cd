use Rattle.std.proofs.Common.{◌-◌, ◌<◌, length}
use Rattle.aio_base.specs.Devices.{TellsFaults}
use Rattle.aio_bytes.specs.Held.{HasNoLineFeed}
use Rattle.aio_bytes.specs.Unread.{KeepsUnread}
use Rattle.aio_bytes.proofs.lines.LineReader.read_next.Given as goal

-- what was unread still is, no whole line is ahead of it, and no read has failed
abbrev pub invariant-loop-self : goal.invariant-loop-self
invariant-loop-self g l = record {
  room : length l.self.ahead < 257;
  no_line : HasNoLineFeed l.self.ahead;
  unread : KeepsUnread (g.S.Source.remaining l.initial.source) (g.S.Source.remaining l.source) l.initial.self.ahead l.self.ahead;
  faults : TellsFaults g.S.Faults.fault_count g.S.Faults.is_sure l.initial.source l.source ⊥;
}

abbrev pub decreases-loop-self : goal.decreases-loop-self
decreases-loop-self g l = 257 - length l.self.ahead
