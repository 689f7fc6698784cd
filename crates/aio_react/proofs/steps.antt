-- What a call says beside the step of the machine that it meets: of a step that says no more than its answer, and of parts of one.
pub mod Later
pub mod Opening
pub mod PartMeets
pub mod PartRows
