pub mod BitReach
