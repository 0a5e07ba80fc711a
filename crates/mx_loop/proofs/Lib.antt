pub mod Standing
pub mod Taking
pub mod Older
pub mod Opening
pub mod Replying
pub mod Waiting
pub mod Turning
pub mod Agreeing
