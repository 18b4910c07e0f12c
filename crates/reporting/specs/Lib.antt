-- What is reported of files that are read from descriptors.
pub mod Trace
pub mod Reported
