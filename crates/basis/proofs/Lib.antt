pub mod Bools
pub mod Decimals
pub mod Digits
pub mod Lists
pub mod Numbers
pub mod Options
pub mod Results
