-- *internal*: The list of these files; the first word of each says whether it has to be believed.
pub mod Expressions
pub mod ExpressionTrees
pub mod Statements
pub mod Modules
pub mod TokenTexts
pub mod StatementTrees
pub mod ModuleTrees
pub mod Leaves
pub mod NumberedWords
pub mod NumberedExpressions
pub mod NumberedStatements
pub mod NumberedModules
pub mod NumberedTrees
pub mod TreeWords
pub mod NumberedTexts
