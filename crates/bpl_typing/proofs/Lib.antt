mod NamedVariables
mod TypedIsTyped
