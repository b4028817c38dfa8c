-- *internal*: The list of these files; the first word of each says whether it has to be believed.
pub mod Times
pub mod TimesLaws
pub mod Marks
pub mod Strata
pub mod Inner
pub mod Digests
pub mod Laws
