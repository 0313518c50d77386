pub mod FaultLemmas
pub mod HeldLemmas
pub mod LayoutLemmas
pub mod TextLemmas
pub mod TransferLemmas
