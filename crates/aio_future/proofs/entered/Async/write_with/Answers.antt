use Rattle.std.proofs.Common.{◌≡◌, ℕ, List, subst, sym}
use Rattle.std.specs.Prelude.{length, take}
use Rattle.aio_base.specs.Connections.{WriteTells}
use Rattle.aio_base.specs.declared.names.Dir.TheVariants as dir
use Rattle.aio_base.specs.declared.outcomes.Poll.TheVariants.{Pending}
use Rattle.aio_future.specs.declared.attempts.Write.{Write}
use Rattle.aio_future.specs.declared.tried.Tried.{Tried}
use Rattle.aio_future.specs.declared.tried.TryFault.TheVariants as fault
use Rattle.aio_future.specs.Tries.{FaultsWithin, IsWriteAnswer, MovesWithin, Tries, bytes_over, fault_counts, write_call}
use Rattle.aio_future.proofs.Trying.{write_faults, write_kind, write_most, write_told, write_tries}
use Rattle.aio_future.proofs.entered.Async.write_with.Goals as goal

abbrev piece_of : Write → List ℕ
piece_of write = write.piece.now

pub returns-clause-tries : goal.returns-clause-tries
returns-clause-tries g c =
    subst (λ (t : Tried). Tries g.C.Conn.conn_step g.C.Arm.arm_step g.C.Arm.interests g.C.Arm.rest g.C.Faults.fault_count g.C.Faults.is_sure
    (write_call c.args.piece.now) fault.Write dir.Write c.args.w c.args.self.now.ticker
    c.args.self.now.cell.now.state c.args.self.now.cell.now.io t c.try_with.new.self.cell.now.state c.try_with.new.self.cell.now.io) (sym c.of.ensures)
    (write_tries g.C.Conn.conn_step g.C.Arm.arm_step g.C.Arm.interests g.C.Arm.rest g.C.Faults.fault_count g.C.Faults.is_sure g.C.Tells.telling
    g.met.C.Conn.rest_is_laid_out _ piece_of (λ a io given left io_left at. at)
    _ _ c.args.self.now.cell.now c.args.self.now.ticker c.try_with.result c.try_with.new.attempt c.try_with.new.self.cell.now c.try_with.ensures.tries)

pub returns-clause-told : goal.returns-clause-told
returns-clause-told g c =
    subst (λ (t : Tried). WriteTells (g.C.Tells.telling c.args.self.now.cell.now.io) (g.C.Tells.telling c.try_with.new.self.cell.now.io)
    (take (bytes_over t.answer) c.args.piece.now) (t.answer ≡ Pending)) (sym c.of.ensures)
    (write_told g.C.Conn.conn_step g.C.Arm.arm_step g.C.Arm.interests g.C.Arm.rest g.C.Faults.fault_count g.C.Faults.is_sure g.C.Tells.telling
    g.met.C.Conn.rest_is_laid_out _ piece_of (λ a io given left io_left at. at)
    _ _ c.args.self.now.cell.now c.args.self.now.ticker c.try_with.result c.try_with.new.attempt c.try_with.new.self.cell.now c.try_with.ensures.tries)

pub returns-clause-most : goal.returns-clause-most
returns-clause-most g c =
    subst (λ (t : Tried). MovesWithin (length c.args.piece.now) t.answer) (sym c.of.ensures)
    (write_most g.C.Conn.conn_step g.C.Arm.arm_step g.C.Arm.interests g.C.Arm.rest g.C.Faults.fault_count g.C.Faults.is_sure g.C.Tells.telling
    g.met.C.Conn.rest_is_laid_out _ piece_of (λ a io given left io_left at. at)
    _ _ c.args.self.now.cell.now c.args.self.now.ticker c.try_with.result c.try_with.new.attempt c.try_with.new.self.cell.now c.try_with.ensures.tries)

pub returns-clause-kind : goal.returns-clause-kind
returns-clause-kind g c =
    subst (λ (t : Tried). IsWriteAnswer t.answer) (sym c.of.ensures)
    (write_kind g.C.Conn.conn_step g.C.Arm.arm_step g.C.Arm.interests g.C.Arm.rest g.C.Faults.fault_count g.C.Faults.is_sure g.C.Tells.telling
    g.met.C.Conn.rest_is_laid_out _ piece_of (λ a io given left io_left at. at)
    _ _ c.args.self.now.cell.now c.args.self.now.ticker c.try_with.result c.try_with.new.attempt c.try_with.new.self.cell.now c.try_with.ensures.tries)

pub returns-clause-faults : goal.returns-clause-faults
returns-clause-faults g c =
    subst (λ (t : Tried). FaultsWithin (g.C.Faults.fault_count c.args.self.now.cell.now.io) (g.C.Faults.fault_count c.try_with.new.self.cell.now.io)
    (g.C.Faults.is_sure c.args.self.now.cell.now.io) (g.C.Faults.is_sure c.try_with.new.self.cell.now.io) (fault_counts t.answer)) (sym c.of.ensures)
    (write_faults g.C.Conn.conn_step g.C.Arm.arm_step g.C.Arm.interests g.C.Arm.rest g.C.Faults.fault_count g.C.Faults.is_sure g.C.Tells.telling
    g.met.C.Conn.rest_is_laid_out _ piece_of (λ a io given left io_left at. at)
    _ _ c.args.self.now.cell.now c.args.self.now.ticker c.try_with.result c.try_with.new.attempt c.try_with.new.self.cell.now c.try_with.ensures.tries)
