use Rattle.std.proofs.Common.{◌≡◌, ◌≤◌, ℕ, List, subst, sym}
use Rattle.std.specs.Prelude.{length, take, Ok}
use Rattle.aio_base.specs.Connections.{ReadTells}
use Rattle.aio_base.specs.declared.names.Dir.TheVariants as dir
use Rattle.aio_base.specs.declared.outcomes.Poll.TheVariants.{Ready, Pending}
use Rattle.aio_future.specs.declared.attempts.Read.{Read}
use Rattle.aio_future.specs.declared.tried.Tried.{Tried}
use Rattle.aio_future.specs.declared.tried.TryFault.TheVariants as fault
use Rattle.aio_future.specs.Tries.{FaultsWithin, IsReadAnswer, Tries, bytes_over, fault_counts, read_call}
use Rattle.aio_future.proofs.Trying.{read_faults, read_kind, read_most, read_told, read_tries}
use Rattle.aio_future.proofs.entered.Async.read_by.Goals as goal

abbrev buf_of : Read → List ℕ
buf_of read = read.buf.now

pub returns-clause-tries : goal.returns-clause-tries
returns-clause-tries g c =
    subst (λ (t : Tried). Tries g.C.Conn.conn_step g.C.Arm.arm_step g.C.Arm.interests g.C.Arm.rest g.C.Faults.fault_count g.C.Faults.is_sure
    (read_call (length c.args.read.now.buf.now) c.try_with.new.attempt.buf.now) fault.Read dir.Read c.args.w c.args.self.now.ticker
    c.args.self.now.cell.now.state c.args.self.now.cell.now.io t c.try_with.new.self.cell.now.state c.try_with.new.self.cell.now.io) (sym c.of.ensures)
    (read_tries g.C.Conn.conn_step g.C.Arm.arm_step g.C.Arm.interests g.C.Arm.rest g.C.Faults.fault_count g.C.Faults.is_sure g.C.Tells.telling
    g.met.C.Conn.rest_is_laid_out _ buf_of (λ a io given left io_left at. at.1)
    _ c.args.read.now c.args.self.now.cell.now c.args.self.now.ticker c.try_with.result c.try_with.new.attempt c.try_with.new.self.cell.now c.try_with.ensures.tries)

pub returns-clause-told : goal.returns-clause-told
returns-clause-told g c =
    subst (λ (t : Tried). ReadTells (g.C.Tells.telling c.args.self.now.cell.now.io) (g.C.Tells.telling c.try_with.new.self.cell.now.io)
    (take (bytes_over t.answer) c.try_with.new.attempt.buf.now) (t.answer ≡ Pending) (t.answer ≡ Ready (Ok 0))) (sym c.of.ensures)
    (read_told g.C.Conn.conn_step g.C.Arm.arm_step g.C.Arm.interests g.C.Arm.rest g.C.Faults.fault_count g.C.Faults.is_sure g.C.Tells.telling
    g.met.C.Conn.rest_is_laid_out _ buf_of (λ a io given left io_left at. at.1)
    _ c.args.read.now c.args.self.now.cell.now c.args.self.now.ticker c.try_with.result c.try_with.new.attempt c.try_with.new.self.cell.now c.try_with.ensures.tries)

pub returns-clause-most : goal.returns-clause-most
returns-clause-most g c =
    subst (λ (t : Tried). bytes_over t.answer ≤ length c.try_with.new.attempt.buf.now) (sym c.of.ensures)
    (read_most g.C.Conn.conn_step g.C.Arm.arm_step g.C.Arm.interests g.C.Arm.rest g.C.Faults.fault_count g.C.Faults.is_sure g.C.Tells.telling
    g.met.C.Conn.rest_is_laid_out _ buf_of (λ a io given left io_left at. at.1)
    _ c.args.read.now c.args.self.now.cell.now c.args.self.now.ticker c.try_with.result c.try_with.new.attempt c.try_with.new.self.cell.now c.try_with.ensures.tries)

pub returns-clause-kind : goal.returns-clause-kind
returns-clause-kind g c =
    subst (λ (t : Tried). IsReadAnswer t.answer) (sym c.of.ensures)
    (read_kind g.C.Conn.conn_step g.C.Arm.arm_step g.C.Arm.interests g.C.Arm.rest g.C.Faults.fault_count g.C.Faults.is_sure g.C.Tells.telling
    g.met.C.Conn.rest_is_laid_out _ buf_of (λ a io given left io_left at. at.1)
    _ c.args.read.now c.args.self.now.cell.now c.args.self.now.ticker c.try_with.result c.try_with.new.attempt c.try_with.new.self.cell.now c.try_with.ensures.tries)

pub returns-clause-faults : goal.returns-clause-faults
returns-clause-faults g c =
    subst (λ (t : Tried). FaultsWithin (g.C.Faults.fault_count c.args.self.now.cell.now.io) (g.C.Faults.fault_count c.try_with.new.self.cell.now.io)
    (g.C.Faults.is_sure c.args.self.now.cell.now.io) (g.C.Faults.is_sure c.try_with.new.self.cell.now.io) (fault_counts t.answer)) (sym c.of.ensures)
    (read_faults g.C.Conn.conn_step g.C.Arm.arm_step g.C.Arm.interests g.C.Arm.rest g.C.Faults.fault_count g.C.Faults.is_sure g.C.Tells.telling
    g.met.C.Conn.rest_is_laid_out _ buf_of (λ a io given left io_left at. at.1)
    _ c.args.read.now c.args.self.now.cell.now c.args.self.now.ticker c.try_with.result c.try_with.new.attempt c.try_with.new.self.cell.now c.try_with.ensures.tries)
