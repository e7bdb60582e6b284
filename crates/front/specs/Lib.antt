pub mod EverySlot
