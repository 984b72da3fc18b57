-- The same on node numbers: every step mirrors the one on expressions, and the table stays sound.
pub mod Turns
pub mod Fitting
pub mod Grows
pub mod Mirror
pub mod MirrorRows
pub mod StartTable
pub mod Converted
