-- What a log still says after power failed while it was written.
pub mod Items
pub mod Standing
pub mod Promises
