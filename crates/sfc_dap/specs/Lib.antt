-- histories after which a resource stands alike
pub mod Alike
