-- *internal*: The list of these files; the first word of each says whether it has to be believed.
pub mod Letters
pub mod Numbers
pub mod Vectors
pub mod Planes
pub mod PlanesBack
pub mod Equal
